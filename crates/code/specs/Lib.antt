pub mod Code
pub mod Points
pub mod Verdict
pub mod Calls
pub mod Slacks
pub mod Sends
