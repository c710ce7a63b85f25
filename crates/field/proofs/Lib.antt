pub mod Addition
pub mod Multiplication
pub mod Doubling
pub mod Exponents
pub mod FiniteSum
mod Steps
pub mod Bytes
