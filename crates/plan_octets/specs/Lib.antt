pub mod Needs
pub mod Groups
pub mod GroupLaws
