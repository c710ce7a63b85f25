pub mod Events
pub mod Effects
