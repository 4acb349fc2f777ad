-- The rule that places a task, by parts.
pub mod NodeChosen
pub mod Consistent
pub mod Limits
pub mod Slots
pub mod Prepared
