pub mod Polynomials
pub mod Division
pub mod Bch
pub mod Words
pub mod Needs
