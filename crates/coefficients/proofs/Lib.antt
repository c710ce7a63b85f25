pub mod Laws
mod Rows
mod Values
mod Basis
mod Gains
mod Completion
mod Shares
