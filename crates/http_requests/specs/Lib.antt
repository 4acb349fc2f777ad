pub mod Paths
pub mod Listings
pub mod Events
pub mod Reads
pub mod Responses
pub mod Requests
