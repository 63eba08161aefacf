pub mod Points
pub mod Answers
pub mod Numbers
pub mod Needs
