pub mod Slots
pub mod Reading
pub mod Calls
pub mod Areas
