pub mod UnitNames
pub mod PayloadNames
