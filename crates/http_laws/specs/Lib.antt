pub mod Ends
pub mod Messages
pub mod Origins
pub mod Targets
