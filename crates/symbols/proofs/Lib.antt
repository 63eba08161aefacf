pub mod Ready
pub mod Strides
pub mod Turns
