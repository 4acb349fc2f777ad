pub mod Keys
pub mod Reading
pub mod Filling
pub mod Found
pub mod Edits
pub mod Kept
