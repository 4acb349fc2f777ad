pub mod Covered
pub mod PlacesOf
pub mod Texts
