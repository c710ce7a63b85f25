pub mod Blocks
pub mod Extending
