pub mod Printed
pub mod Published
pub mod PublishedLaws
