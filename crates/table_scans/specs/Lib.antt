pub mod Holding
pub mod Runs
