pub mod Fronts
pub mod Answered
mod Applied
mod Readiness
pub mod Settled
