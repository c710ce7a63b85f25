pub mod Groups
pub mod Choices
pub mod PickRows
pub mod Spans
