pub mod Body
pub mod Durations
pub mod Members
pub mod Words
