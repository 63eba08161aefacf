pub mod Needs
pub mod Numbers
pub mod NumberLaws
