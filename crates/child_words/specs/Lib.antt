pub mod Filling
pub mod InOrder
pub mod Instances
pub mod Names
pub mod Queued
pub mod RunNames
