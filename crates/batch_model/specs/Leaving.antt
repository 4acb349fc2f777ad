-- Nodes that leave their pool: what becomes of the runs on them and of the tasks that these are of.
-- Source: Azure Batch REST reference, ComputeNodeDeallocationOption; the form is this project's own.
use Rattle.std.specs.Prelude.{Bool, ◌&&◌}
use Rattle.std.specs.List.{list_any}
use Rattle.batch_model.specs.Rows.{is_node, change_nodes, change_runs}
use Rattle.batch_model.specs.Runs.{is_start, is_present, halted}
use Rattle.batch_model.specs.Stops.{stop, halt_preparations}
use Rattle.batch_model.specs.Variants.{State, NodeRow, Leaving, Dealloc, ByRequeue, ByTerminate, TaskCompletion, RetainedData, TaskRow, Want, WantRequeue, WantTerminate, RunRow}

-- the run is on a node that passes the test
abbrev pub is_on : (NodeRow → Bool) → State → RunRow → Bool
is_on test s run = list_any (λ node. test node && is_node run.node node) s.nodes

-- a start run that passes the test
abbrev pub is_start_run : (RunRow → Bool) → RunRow → Bool
is_start_run test run = test run && is_start run.kind

-- a run of the task's present attempt passes the test
abbrev pub has_run_where : (RunRow → Bool) → State → TaskRow → Bool
has_run_where test s task = list_any (λ run. test run && is_present task run) s.runs

-- the placed tasks with a run of their present attempt that passes the test are stopped, and the preparation runs that pass it halted
abbrev pub clear_runs : Want → (RunRow → Bool) → State → State
clear_runs want test s = halt_preparations test (stop (has_run_where test s) want s)

-- by requeue and by terminate tasks are stopped so; by the other options they go on
abbrev pub clear_for : Dealloc → (RunRow → Bool) → State → State
clear_for ByRequeue test s = clear_runs WantRequeue test s
clear_for ByTerminate test s = clear_runs WantTerminate test s
clear_for TaskCompletion test s = s
clear_for RetainedData test s = s

-- the node leaves by the option
abbrev pub leaving_by : Dealloc → NodeRow → NodeRow
leaving_by option node = record node { stage = Leaving option }

-- the nodes that pass the test leave by the option, and their start runs are halted
abbrev pub with_leaving : Dealloc → (NodeRow → Bool) → State → State
with_leaving option test s =
    change_runs (is_start_run (is_on test s)) (halted s.moment) (change_nodes test (leaving_by option) s)

-- the nodes that pass the test leave by the option, and what runs there is stopped as it says
abbrev pub leave : Dealloc → (NodeRow → Bool) → State → State
leave option test s = clear_for option (is_on test s) (with_leaving option test s)
