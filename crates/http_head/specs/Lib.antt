pub mod Fields
pub mod Framing
pub mod Heads
pub mod Items
pub mod Lines
pub mod Targets
