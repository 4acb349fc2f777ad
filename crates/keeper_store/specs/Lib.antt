pub mod Lists
pub mod Contents
pub mod Listed
