-- The event `take`, by parts of soundness.
pub mod Consistent
pub mod Starts
