-- What a keeper's calls do to the tables that it tells, and when they fail.
use Rattle.std.specs.Prelude.{ℕ, ◌≤◌, Option, Result, IsErrOf, List}
use Rattle.std.specs.Option.{option_map}
use Rattle.bt_base.specs.Causes.{Rose}
use Rattle.bt_rows.specs.State.{State}
use Rattle.bt_rows.specs.Changes.{apply_changes}
use Rattle.bt_rows.specs.declared.tables.Change.{Change}
use Rattle.batch_keeper.specs.declared.error.KeepError.{KeepError}
use Rattle.batch_keeper.specs.declared.error.KeepError.TheVariants.{Failed}

-- the told tables after changes
abbrev pub told_after : List Change → Option State → Option State
told_after changes told = option_map (apply_changes changes) told

-- the count never falls, and rose if `Failed` was returned
pub record FailsWithCause {T : Type 0} (before now : ℕ) (result : Result T KeepError) : Type 0 where
  pub later : before ≤ now
  pub failed : IsErrOf result Failed → Rose before now
