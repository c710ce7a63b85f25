mod Gave
pub mod Settled
