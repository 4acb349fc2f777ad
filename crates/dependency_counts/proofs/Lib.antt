pub mod Lists
pub mod Lives
