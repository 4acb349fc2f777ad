pub mod Lines
pub mod Refusals
pub mod Replies
pub mod Dues
pub mod Rows
pub mod Tables
