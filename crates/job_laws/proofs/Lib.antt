pub mod OverRows
pub mod OverByEvents
pub mod OverByDues
