pub mod Probes
pub mod Held
