pub mod Cores
