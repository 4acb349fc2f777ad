pub mod InOrder
pub mod Lines
pub mod Parts
mod Worked
