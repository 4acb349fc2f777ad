-- The changes by which nodes leave: a put for each node, one for each start run that is halted, and those that stop what else runs there.
-- All are read off the tables before the first of them.
use Rattle.std.specs.Prelude.{ℕ, Bool, ◌&&◌, List, [], ◌++◌, Option, Some}
use Rattle.bt_rows.specs.declared.tables.Change.{Change}
use Rattle.bt_rows.specs.declared.tables.Change.TheVariants.{PutNode, PutRun}
use Rattle.batch_model.specs.Finding.{only_if}
use Rattle.batch_model.specs.Leaving.{has_run_where, is_on, is_start_run, leaving_by}
use Rattle.batch_model.specs.Runs.{is_unended, halted}
use Rattle.batch_model.specs.Variants.{State, NodeRow, Dealloc, ByRequeue, ByTerminate, TaskCompletion, RetainedData, Want, WantRequeue, WantTerminate, RunRow}
use Rattle.row_changes.specs.Puts.{puts_of}
use Rattle.task_stops.specs.HaltChanges.{halt_changes}
use Rattle.task_stops.specs.StopChanges.{stop_changes}

-- the node after it leaves, if it passes the test
abbrev pub left_node : Dealloc → (NodeRow → Bool) → NodeRow → Option NodeRow
left_node option test node = only_if (test node) (Some (leaving_by option node))

-- an unended start run on a node that passes the test
abbrev pub is_halted_start : (NodeRow → Bool) → State → RunRow → Bool
is_halted_start test s run = is_unended run.state && is_start_run (is_on test s) run

-- the run after it is halted, if it is such a run
abbrev pub halted_start : (NodeRow → Bool) → ℕ → State → RunRow → Option RunRow
halted_start test now s run = only_if (is_halted_start test s run) (Some (halted now run))

-- the nodes first, and then their start runs
abbrev pub with_leaving_changes : Dealloc → (NodeRow → Bool) → ℕ → State → List Change
with_leaving_changes option test now s =
    puts_of PutNode (left_node option test) s.nodes ++ puts_of PutRun (halted_start test now s) s.runs

-- the tasks first, and then the preparations
abbrev pub clear_changes : Want → (RunRow → Bool) → ℕ → State → List Change
clear_changes want test now s = stop_changes (has_run_where test s) want now s ++ halt_changes test now s

-- by requeue and by terminate alone
abbrev pub clear_changes_for : Dealloc → (RunRow → Bool) → ℕ → State → List Change
clear_changes_for ByRequeue test now s = clear_changes WantRequeue test now s
clear_changes_for ByTerminate test now s = clear_changes WantTerminate test now s
clear_changes_for TaskCompletion test now s = []
clear_changes_for RetainedData test now s = []

-- the nodes and their start runs first
abbrev pub leave_changes : Dealloc → (NodeRow → Bool) → ℕ → State → List Change
leave_changes option test now s = with_leaving_changes option test now s ++ clear_changes_for option (is_on test s) now s
