pub mod Endings
pub mod Owners
pub mod Settled
