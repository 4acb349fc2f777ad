pub mod Histories
pub mod KeptSamples
