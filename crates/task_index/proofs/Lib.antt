pub mod OverRanks
pub mod ActiveItems
pub mod NumberPlaces
pub mod TimedRanks
