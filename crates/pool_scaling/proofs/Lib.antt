pub mod Gathered
pub mod Evaluated
pub mod ScalePuts
pub mod Shown
pub mod Enabled
pub mod Scaled
