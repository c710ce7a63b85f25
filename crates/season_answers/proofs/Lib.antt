mod Gated
pub mod Records
pub mod Numbers
