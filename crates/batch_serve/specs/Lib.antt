pub mod Ends
pub mod Passes
pub mod Works
pub mod Serving
pub mod Promises
pub mod Statuses
