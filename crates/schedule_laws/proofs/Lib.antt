mod All
mod Begun
mod Cuts
mod Dues
mod Firing
pub mod Histories
mod Parts
mod Reaching
mod Splits
mod Turns
