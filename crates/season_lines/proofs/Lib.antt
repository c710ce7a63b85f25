pub mod Decimal
pub mod Hexadecimal
mod Backwards
mod Texts
