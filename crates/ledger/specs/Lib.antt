pub mod Ledger
pub mod Stolen
