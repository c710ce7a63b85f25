pub mod Events
pub mod Output
pub mod Once
pub mod LedgerRun
pub mod WholeChanges
pub mod Program
pub mod ProgramLedger
pub mod Sample
pub mod SampleLedger
mod Turns
