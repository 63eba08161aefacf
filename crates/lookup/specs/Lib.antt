pub mod Lookups
pub mod Needs
