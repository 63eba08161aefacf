pub mod Needs
pub mod Moves
pub mod SlotTurns
pub mod ReadTurns
pub mod StepLaws
pub mod CallTurns
