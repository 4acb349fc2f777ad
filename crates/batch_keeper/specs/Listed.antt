-- A keeper in memory of which some calls fail.
use Rattle.std.specs.Prelude.{ℕ, List}
use Rattle.bt_rows.specs.State.{State}

-- its tables, the numbers of the calls that fail, counted from 1, and how many calls were made and failed
pub record ListedKeeper : Type 0 where
  pub tables : State
  pub fails : List ℕ
  pub calls : ℕ
  pub faults : ℕ
