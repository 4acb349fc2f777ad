pub mod Measure
pub mod ReleaseRuns
pub mod Releases
pub mod Retries
pub mod Runs
pub mod Placings
pub mod Order
