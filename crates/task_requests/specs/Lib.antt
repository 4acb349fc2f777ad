pub mod Collections
pub mod Stated
