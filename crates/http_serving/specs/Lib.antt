pub mod Connection
pub mod Reading
pub mod Responses
pub mod Services
pub mod Stages
