pub mod ListPuts
pub mod PoolDrops
pub mod PrepPuts
pub mod PutsAfter
pub mod PutsInPlace
pub mod RowDropped
