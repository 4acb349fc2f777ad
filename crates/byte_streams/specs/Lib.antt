pub mod Content
pub mod Streams
