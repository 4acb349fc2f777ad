pub mod Methods
pub mod Table
pub mod Targets
