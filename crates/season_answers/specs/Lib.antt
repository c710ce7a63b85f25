pub mod Answers
pub mod Extents
