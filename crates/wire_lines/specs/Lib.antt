pub mod Arguments
pub mod Endings
pub mod Lines
pub mod Parts
pub mod Reads
pub mod Samples
