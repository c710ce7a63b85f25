pub mod Order
mod Numbers
pub mod Successor
