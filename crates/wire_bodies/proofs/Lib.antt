pub mod ItemCounts
pub mod ItemsRead
