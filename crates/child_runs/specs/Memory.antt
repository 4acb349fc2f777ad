-- Spawners in memory.
use Rattle.std.specs.Prelude.{◌≡◌, ◌+◌, ◌-◌, ◌^◌, ◌==◌, ◌↔◌, ◌∷◌, ◌++◌, ℕ, List, [], min, pos, Contains, if◌then◌else◌}
use Rattle.child_runs.specs.declared.ran.ChildEnding.{ChildEnding}
use Rattle.child_runs.specs.declared.ran.ChildEnding.TheVariants.{Code}
use Rattle.child_runs.specs.declared.ran.ChildRun.{ChildRun}
use Rattle.child_runs.specs.declared.ran.Ran.{Ran}
use Rattle.child_runs.specs.declared.ran.Ran.TheVariants.{Ended, NotStarted, Memory}

-- the first ending that is listed for the run with this number; Code(0) if there is none
abbrev pub ending_of : List (ℕ × ChildEnding) → ℕ → ChildEnding
ending_of [] number = Code (pos 0)
ending_of (ending ∷ endings) number = if ending.0 == number then ending.1 else ending_of endings number

-- a spawner that never fails: how its children end, by run number, and the children that ran, in order
pub record ListedRuns : Type 0 where
  pub endings : List (ℕ × ChildEnding)
  pub runs : List ChildRun

-- what became of a child leaves these children that ran: an ending is the listed one and adds the child, and without memory there
-- is no child
abbrev pub LeavesRuns : Ran → ListedRuns → ChildRun → List ChildRun → Type 0
LeavesRuns (Ended ending) old child runs = (ending ≡ ending_of old.endings child.number) × (runs ≡ old.runs ++ child ∷ [])
LeavesRuns NotStarted old child runs = ⊥
LeavesRuns Memory old child runs = runs ≡ old.runs

-- a child of a spawner that never fails
pub record RunsAsListed (old : ListedRuns) (child : ChildRun) (new : ListedRuns) : Type 0 where
  pub same_endings : new.endings ≡ old.endings
  pub runs : LeavesRuns child.how old child new.runs

-- a spawner of which some calls fail: what it is without that, the numbers of the calls that fail, counted from 1, and how many
-- calls were made and failed
pub record FailingRuns : Type 0 where
  pub inner : ListedRuns
  pub fails : List ℕ
  pub calls : ℕ
  pub faults : ℕ

-- what became of a child leaves this spawner: one that was not started is counted as a fault and is no child that ran
abbrev pub LeavesCounts : Ran → FailingRuns → ChildRun → FailingRuns → Type 0
LeavesCounts (Ended ending) old child new = (new.faults ≡ old.faults) × RunsAsListed old.inner child new.inner
LeavesCounts NotStarted old child new = (new.faults ≡ min (old.faults + 1) (2 ^ 64 - 1)) × (new.inner ≡ old.inner)
LeavesCounts Memory old child new = (new.faults ≡ old.faults) × RunsAsListed old.inner child new.inner

-- a child of a spawner of which some calls fail
pub record RunsOrFails (old : FailingRuns) (child : ChildRun) (new : FailingRuns) : Type 0 where
  pub same_fails : new.fails ≡ old.fails
  pub counted : new.calls ≡ min (old.calls + 1) (2 ^ 64 - 1)
  pub listed : (child.how ≡ NotStarted) ↔ Contains old.fails new.calls
  pub left : LeavesCounts child.how old child new
