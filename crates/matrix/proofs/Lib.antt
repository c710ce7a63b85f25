pub mod Laws
mod Identity
mod Rewriting
mod RowOperations
mod Loading
mod Bridge
mod Answers
pub mod Existence
pub mod Examples
pub mod Settled
