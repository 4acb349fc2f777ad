pub mod ConditionScripts
pub mod DependencyScripts
pub mod JobScripts
pub mod PreparationScripts
pub mod ReleaseScripts
pub mod RetryScripts
pub mod TaskEventScripts
pub mod WallTimeScripts
