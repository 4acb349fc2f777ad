pub mod Compiled
pub mod Compiling
pub mod Nodes
pub mod Rules
pub mod Scopes
pub mod Typing
pub mod View
