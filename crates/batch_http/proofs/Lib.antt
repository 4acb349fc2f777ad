mod Leading
mod Losing
pub mod Serving
