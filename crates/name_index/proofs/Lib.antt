mod Lookups
pub mod Places
