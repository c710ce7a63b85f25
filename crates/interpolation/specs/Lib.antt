pub mod Polynomial
pub mod Lagrange
