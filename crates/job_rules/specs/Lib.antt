pub mod Releases
pub mod Removals
