pub mod Counts
pub mod Memory
pub mod Runs
pub mod Stops
