pub mod Ends
pub mod Journals
pub mod Lanes
pub mod Timers
