pub mod ItemLists
pub mod ItemsRead
pub mod ReadBack
