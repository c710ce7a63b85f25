pub mod Gates
pub mod Refusals
pub mod Valid
