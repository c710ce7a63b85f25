pub mod Decided
pub mod Gate
pub mod Seq
pub mod Parts
