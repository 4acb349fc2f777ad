pub mod Kept
pub mod Runs
pub mod Own
pub mod Answers
