pub mod ReadLaws
pub mod Needs
