pub mod Season
pub mod Ledgers
pub mod Turning
pub mod Program
