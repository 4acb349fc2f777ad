pub mod JobIds
pub mod DeskSteps
pub mod TurnsOverDesk
