pub mod Characters
pub mod Decimals
pub mod DecimalLaws
pub mod Written
pub mod Needs
