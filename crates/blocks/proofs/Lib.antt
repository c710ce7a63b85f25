pub mod Laws
pub mod Overlap
