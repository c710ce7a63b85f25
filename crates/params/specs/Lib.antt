pub mod Nodes
pub mod Params
