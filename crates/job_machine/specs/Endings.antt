-- Endings of preparation and release runs.
use Rattle.std.specs.Prelude.{◌≡◌, ℕ, ◌^◌, ◌<◌, nat_lt, true, List, [], Option, Some, None, if◌then◌else◌}
use Rattle.bt_rows.specs.declared.tables.Change.{Change}
use Rattle.batch_model.specs.Events.{ended_run}
use Rattle.batch_model.specs.Finding.{Each, only_if}
use Rattle.batch_model.specs.Preparing.{is_waiting_on, prep_of_run, queued, waits_on}
use Rattle.batch_model.specs.Rows.{is_run, run_of, change_runs}
use Rattle.batch_model.specs.Runs.{is_taken}
use Rattle.batch_model.specs.Variants.{State, StartTask, WantRequeue, Ending, RunRow, PrepRow}
use Rattle.batch_model.specs.WellFormed.{KeysAreDistinct}
use Rattle.machine_plans.specs.Plans.{with_moment}
use Rattle.task_stops.specs.StopChanges.{stop_changes}

-- the tables at the moment, in which the run has ended
abbrev pub with_end : ℕ → Ending → RunRow → State → State
with_end now ending run s = change_runs (is_run run.number) (ended_run now ending) (with_moment now s)

-- the run is there and names no task, in tables to which a run may be added, and so is the preparation of its job on its node, whose
-- failures are far below the end of their type
pub record IsAtPrep (s : State) (run : RunRow) (prep : PrepRow) : Type 0 where
  pub keys : KeysAreDistinct s
  pub below : Each (λ (other : RunRow). nat_lt other.number s.next_run) s.runs
  pub there : run_of s run.number ≡ Some run
  pub taken : is_taken run.state ≡ true
  pub task : run.task ≡ None
  pub found : prep_of_run s run ≡ Some prep
  pub few : prep.tries < 2 ^ 63

-- the run, queued, if it waits for the preparation
abbrev pub queued_run : PrepRow → RunRow → Option RunRow
queued_run prep run = only_if (waits_on prep run) (Some (queued run))

-- the changes that requeue the tasks that wait for the preparation, if it is waited for
abbrev pub spent_stops : ℕ → StartTask → PrepRow → State → List Change
spent_stops now preparation prep s =
    if preparation.wait then stop_changes (is_waiting_on s prep) WantRequeue now s else []
