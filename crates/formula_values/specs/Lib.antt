pub mod Faults
pub mod Functions
pub mod Members
pub mod Operators
pub mod Steps
pub mod Texts
pub mod Times
pub mod Values
