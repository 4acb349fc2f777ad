pub mod Durations
pub mod Instants
pub mod Civils
