pub mod Contexts
pub mod Evaluation
pub mod Interface
pub mod Names
pub mod Outcomes
pub mod Results
pub mod Statements
pub mod Walks
