pub mod Matching
pub mod KnownKeys
pub mod KeyTests
pub mod LabelSteps
pub mod Deciding
pub mod ByCounts
