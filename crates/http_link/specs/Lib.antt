pub mod Filling
pub mod Pieces
pub mod Links
pub mod Writing
