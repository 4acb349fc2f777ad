-- The changes that halt preparations: a put for each run that is halted, and one for each preparation that has failed.
use Rattle.std.specs.Prelude.{ℕ, Bool, ◌&&◌, List, ◌++◌, Option, Some}
use Rattle.bt_base.specs.Ids.{same}
use Rattle.bt_rows.specs.declared.tables.Change.{Change}
use Rattle.bt_rows.specs.declared.tables.Change.TheVariants.{PutRun, PutPrep}
use Rattle.batch_model.specs.Finding.{only_if}
use Rattle.batch_model.specs.Leaving.{is_on}
use Rattle.batch_model.specs.Preps.{failed_preparation}
use Rattle.batch_model.specs.Runs.{halted, is_open_preparation, prepares}
use Rattle.batch_model.specs.Stops.{has_run_cut_off}
use Rattle.batch_model.specs.Variants.{State, RunRow, PrepRow}
use Rattle.row_changes.specs.Puts.{puts_of}
use Rattle.task_stops.specs.LeaveTests.{has_passing, leaves}
use Rattle.task_stops.specs.declared.halt.Halted.{Halted}
use Rattle.task_stops.specs.declared.halt.Halted.TheVariants.{OfJob, OnNodes}

-- the run prepares the job, or is on a node that leaves
abbrev pub concerns : State → Halted → RunRow → Bool
concerns s (OfJob job) = prepares job
concerns s (OnNodes which) = is_on (leaves which) s

-- the preparation is of the job, or on a node that leaves
abbrev pub concerns_prep : State → Halted → PrepRow → Bool
concerns_prep s (OfJob job) prep = same prep.job job
concerns_prep s (OnNodes which) prep = has_passing (leaves which) s prep.node

-- an unended preparation run that passes the test
abbrev pub is_halted_preparation : (RunRow → Bool) → RunRow → Bool
is_halted_preparation test run = test run && is_open_preparation run

-- the run after it is halted, if it is such a run
abbrev pub halted_preparation : (RunRow → Bool) → ℕ → RunRow → Option RunRow
halted_preparation test now run = only_if (is_halted_preparation test run) (Some (halted now run))

-- the preparation after it has failed, if its run is cut off
abbrev pub failed_prep : (RunRow → Bool) → State → PrepRow → Option PrepRow
failed_prep test s prep = only_if (has_run_cut_off test s prep) (Some (failed_preparation prep))

-- the runs first
abbrev pub halt_changes : (RunRow → Bool) → ℕ → State → List Change
halt_changes test now s = puts_of PutRun (halted_preparation test now) s.runs ++ puts_of PutPrep (failed_prep test s) s.preps
