pub mod DuePlans
pub mod DuePuts
pub mod EventPuts
pub mod Moves
