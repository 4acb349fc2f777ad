pub mod Gathering
pub mod Evaluations
pub mod Rows
