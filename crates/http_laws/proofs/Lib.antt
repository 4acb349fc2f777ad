pub mod Agreeing
pub mod Refusing
pub mod Telling
pub mod Truncating
