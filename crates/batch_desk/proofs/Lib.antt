pub mod Causes
pub mod DueRuns
pub mod EndedOnce
pub mod Entering
mod ExchangesEntered
pub mod KeptThrough
pub mod LawsHold
pub mod MadeOnce
pub mod Opened
pub mod Saved
pub mod Stored
