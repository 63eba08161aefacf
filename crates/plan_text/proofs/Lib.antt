pub mod Lines
pub mod Picked
