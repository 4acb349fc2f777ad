pub mod Openings
pub mod Sharing
pub mod Turns
pub mod Askers
