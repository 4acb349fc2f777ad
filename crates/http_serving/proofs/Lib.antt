pub mod Advancing
pub mod Bodies
pub mod Buffers
pub mod Cutting
pub mod Exchanging
pub mod Nearing
