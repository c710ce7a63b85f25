pub mod Coefficients
pub mod Working
