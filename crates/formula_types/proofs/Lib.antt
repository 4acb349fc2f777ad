pub mod Calls
pub mod Computes
pub mod Found
pub mod Nodes
pub mod OneAnswer
pub mod Rules
pub mod Steps
