pub mod Needs
pub mod Layout
pub mod Blocks
pub mod BlockLaws
pub mod TurnedLaws
