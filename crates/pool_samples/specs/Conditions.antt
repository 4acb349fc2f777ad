-- What sampling asks of tables.
use Rattle.std.specs.Prelude.{◌≤◌, length}
use Rattle.batch_model.specs.Limits.{seat_limit}
use Rattle.batch_model.specs.WellFormed.{KeysAreDistinct, RowsAreValid, CountsAreInRange, PoolsAreFitting}
use Rattle.batch_model.specs.Variants.{State}

-- rows with keys of their own and in their ranges, few enough to be counted, and samples in order
pub record CanSample (s : State) : Type 0 where
  pub keys : KeysAreDistinct s
  pub rows : RowsAreValid s
  pub counts : CountsAreInRange s
  pub pools : PoolsAreFitting s
  pub nodes : length s.nodes ≤ seat_limit
