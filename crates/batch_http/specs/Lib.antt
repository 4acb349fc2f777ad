pub mod Connections
pub mod Doors
pub mod Responses
pub mod Services
