pub mod Needs
pub mod TailLaws
