pub mod Crew
pub mod Ready
