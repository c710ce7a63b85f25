pub mod Sets
mod Words
pub mod Placing
pub mod Outside
pub mod Lowest
pub mod Behind
pub mod SetOf
