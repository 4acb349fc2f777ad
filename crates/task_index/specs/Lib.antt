pub mod Over
pub mod Active
pub mod Timed
pub mod Numbered
