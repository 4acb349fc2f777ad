pub mod AnsweredTasks
pub mod DroppedTasks
pub mod FoundTasks
