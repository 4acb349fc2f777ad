pub mod AfterPut
pub mod HaltMade
pub mod JobStops
pub mod RunOfStopped
pub mod StopMade
