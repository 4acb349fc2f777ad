pub mod Parser
pub mod Frames
pub mod Stacks
pub mod States
pub mod Whole
pub mod Wholes
