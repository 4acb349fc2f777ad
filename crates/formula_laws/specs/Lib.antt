pub mod Operands
pub mod Reaching
pub mod Strings
pub mod ValueTypes
