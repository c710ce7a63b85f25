pub mod Valid
pub mod Refusals
mod Answers
pub mod Edges
