pub mod CivilSteps
pub mod DurationSteps
