-- A store in memory of which some calls fail.
use Rattle.std.specs.Prelude.{ℕ, List}
use Rattle.keeper_store.specs.declared.content.Stored.{Stored}

-- what it contains, the numbers of the calls that fail, counted from 1, and how many calls were made and failed
pub record ListedStore : Type 0 where
  pub content : Stored
  pub fails : List ℕ
  pub calls : ℕ
  pub faults : ℕ
