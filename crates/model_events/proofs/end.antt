-- The event `end`, by parts of soundness.
pub mod StartCases
pub mod Consistent
pub mod Starts
pub mod PrepRuns
pub mod Preps
