pub mod NodeDrops
pub mod OnNodes
pub mod PrepsOfRuns
pub mod RetainedRuns
pub mod StartPuts
pub mod TakePuts
pub mod TasksOfRuns
