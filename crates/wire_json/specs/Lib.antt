pub mod Members
pub mod Items
pub mod Replies
