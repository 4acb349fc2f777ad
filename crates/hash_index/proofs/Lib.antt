pub mod Below
pub mod Newest
