mod Capped
mod Items
mod Openings
mod ByKind
pub mod Lengths
