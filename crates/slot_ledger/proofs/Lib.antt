pub mod Entries
pub mod MostFree
pub mod Sums
