pub mod Needs
pub mod Sizes
pub mod Records
pub mod Rates
pub mod Plans
pub mod Places
pub mod States
