-- The pool that an id finds is the one with its own id.
use Rattle.std.proofs.Common.{◌≡◌, ℕ, List, Some}
use Rattle.bt_rows.specs.Keys.{same_pool, same_pool_equiv}
use Rattle.bt_rows.proofs.DistinctRows.{found_first}
use Rattle.batch_model.specs.Rows.{is_pool, pool_of}
use Rattle.batch_model.specs.WellFormed.{KeysAreDistinct}
use Rattle.batch_model.specs.Variants.{State, PoolRow}

pub own_id : (id : List ℕ) (pool : PoolRow) (s : State) → KeysAreDistinct s → pool_of s id ≡ Some pool → pool_of s pool.id ≡ Some pool
own_id id pool s keys found = found_first same_pool same_pool_equiv (is_pool id) pool s.pools keys.pools found
