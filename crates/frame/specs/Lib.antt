pub mod Tables
pub mod Steps
pub mod Frames
pub mod Walks
pub mod Needs
