pub mod FirstWeaker
mod JobRemoved
mod FirstTimedOut
mod FirstToRelease
mod ReleasePuts
pub mod ReleaseTasks
