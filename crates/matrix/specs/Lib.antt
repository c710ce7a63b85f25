pub mod Matrix
pub mod Inversion
pub mod Uninvertible
pub mod Invert
pub mod Product
pub mod Working
