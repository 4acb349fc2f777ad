pub mod HaltChanges
pub mod LeaveTests
pub mod StopChanges
