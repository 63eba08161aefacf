pub mod TableLaws
pub mod StepLaws
pub mod FrameLaws
pub mod CallLaws
pub mod SlotBySlot
pub mod PlacedLaws
