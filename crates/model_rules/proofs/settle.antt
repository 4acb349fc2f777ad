-- The rule that settles a task, by parts.
pub mod JobActed
