pub mod Arguments
pub mod Nodes
pub mod VariableLists
