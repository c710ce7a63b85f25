pub mod File
pub mod Lengths
