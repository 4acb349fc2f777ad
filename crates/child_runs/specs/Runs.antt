-- What a desk is told of a child program, and when one may be reported as not started.
use Rattle.std.specs.Prelude.{◌≡◌, ◌≤◌, ℕ, Option, Some, None}
use Rattle.bt_base.specs.Causes.{Rose}
use Rattle.bt_rows.specs.declared.run.Ending.{Ending}
use Rattle.bt_rows.specs.declared.run.Ending.TheVariants as ending
use Rattle.child_runs.specs.declared.ran.ChildEnding.TheVariants.{Code, NoCode}
use Rattle.child_runs.specs.declared.ran.Ran.{Ran}
use Rattle.child_runs.specs.declared.ran.Ran.TheVariants.{Ended, NotStarted, Memory}

-- the ending of the run; None if there was no memory to start the child program
abbrev pub told_ending : Ran → Option Ending
told_ending (Ended (Code code)) = Some (ending.Code code)
told_ending (Ended NoCode) = Some ending.NoCode
told_ending NotStarted = Some ending.NotStarted
told_ending Memory = None

-- the count of faults never falls, and it rose if the child program was not started
pub record HasStartCause (before now : ℕ) (how : Ran) : Type 0 where
  pub later : before ≤ now
  pub not_started : how ≡ NotStarted → Rose before now
