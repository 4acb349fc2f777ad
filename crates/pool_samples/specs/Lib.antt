pub mod Changes
pub mod Conditions
pub mod Counts
pub mod Kept
