pub mod PolynomialLaws
pub mod DivisionLaws
pub mod MessageLaws
pub mod GeneratorLaws
pub mod BchLaws
pub mod Entries
pub mod Shifted
pub mod Turns
