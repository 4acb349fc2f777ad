pub mod FewLines
pub mod FieldCounts
pub mod LineCounts
pub mod Reading
pub mod Splits
pub mod TargetEnds
