pub mod OneShowing
pub mod Showings
