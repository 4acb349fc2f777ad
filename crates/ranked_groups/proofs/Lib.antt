pub mod Members
pub mod Numbers
pub mod Grouped
pub mod WithRanks
pub mod NameRows
