mod Turns
mod Walk
mod Comparing
pub mod Settled
