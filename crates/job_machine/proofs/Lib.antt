pub mod FoundJobs
pub mod FoundPreps
pub mod EndingPuts
pub mod EndedPreparations
pub mod FewFailures
pub mod PreparationPuts
