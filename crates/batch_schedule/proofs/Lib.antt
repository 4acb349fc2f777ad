mod Reaching
mod Runs
mod Parts
mod TurnParts
mod States
mod Following
