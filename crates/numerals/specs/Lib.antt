pub mod Numerals
pub mod NumeralLaws
pub mod Words
pub mod Needs
pub mod WordLaws
