pub mod FirstToLeave
pub mod FoundPools
pub mod PoolAdded
pub mod PoolChanges
