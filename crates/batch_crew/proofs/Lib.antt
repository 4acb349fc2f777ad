mod Added
pub mod FirstTicks
pub mod GivenRuns
mod LaneEnds
mod Stops
mod Turns
