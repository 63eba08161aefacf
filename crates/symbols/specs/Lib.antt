pub mod Index
pub mod IndexLaws
pub mod Labels
pub mod LabelLaws
pub mod Needs
pub mod CallLaws
