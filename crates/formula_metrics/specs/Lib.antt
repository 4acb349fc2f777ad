pub mod Methods
pub mod Parts
