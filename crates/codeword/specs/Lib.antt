pub mod Words
pub mod Reading
pub mod Calls
pub mod Needs
