-- Start tasks: what the ending of a start run does to its node.
-- Source: Azure Batch REST reference, StartTask; the form is this project's own.
use Rattle.std.specs.Prelude.{ℕ, ◌+◌, Bool, ◌&&◌, Option, if◌then◌else◌}
use Rattle.std.specs.Option.{option_and_then}
use Rattle.batch_model.specs.Finding.{at_row, is_within_limit, has_number_left}
use Rattle.batch_model.specs.Rows.{is_node, node_of, pool_of, change_nodes, add_run_row}
use Rattle.batch_model.specs.Runs.{start_run}
use Rattle.batch_model.specs.Endings.{is_success}
use Rattle.batch_model.specs.Variants.{State, NodeRow, NodeStage, Starting, Usable, StartFailed, Leaving, StartTask, Ending, RunRow}

-- a start task with n failures is run again: they are within its retries, and run numbers last
abbrev pub is_tried_again : State → ℕ → StartTask → Bool
is_tried_again s failed start = is_within_limit failed start.retries && has_number_left s.next_run

-- a starting node is usable, and another stays as it is
abbrev pub usable_in : NodeStage → NodeStage
usable_in Starting = Usable
usable_in stage = stage

-- a starting node has failed, and another stays as it is
abbrev pub failed_in : NodeStage → NodeStage
failed_in Starting = StartFailed
failed_in stage = stage

-- the node after its start task succeeded
abbrev pub started_node : NodeRow → NodeRow
started_node node = record node { stage = usable_in node.stage }

-- the node after one more failure of its start task
abbrev pub counted_node : NodeRow → NodeRow
counted_node node = record node { tries = node.tries + 1 }

-- the node after the last failure of its start task
abbrev pub failed_node : NodeRow → NodeRow
failed_node node = record (counted_node node) { stage = failed_in node.stage }

-- the node, changed in its place
abbrev pub change_node : NodeRow → (NodeRow → NodeRow) → State → State
change_node node change s = change_nodes (is_node node.number) change s

-- the failure is counted, and the start task is run again
abbrev pub start_again : NodeRow → StartTask → State → State
start_again node start s = add_run_row (start_run s node start) (change_node node counted_node s)

-- one more failure: the start task is run again, or a starting node has failed
abbrev pub start_failed : NodeRow → StartTask → State → State
start_failed node start s =
    if is_tried_again s (node.tries + 1) start then start_again node start s else change_node node failed_node s

-- the start task of the node's pool
abbrev pub start_of : State → NodeRow → Option StartTask
start_of s node = option_and_then (λ pool. pool.start) (pool_of s node.pool)

-- code 0 makes a starting node usable, and another ending is a failure
abbrev pub start_ended_at : NodeRow → Ending → State → State
start_ended_at node ending s =
    if is_success ending then change_node node started_node s else at_row (start_failed node) (start_of s node) s

-- nothing if the node is leaving
abbrev pub start_ended_in : NodeStage → NodeRow → Ending → State → State
start_ended_in (Leaving option) node ending s = s
start_ended_in _ node ending s = start_ended_at node ending s

-- at the run's node
abbrev pub start_ended : RunRow → Ending → State → State
start_ended run ending s = at_row (λ node. start_ended_in node.stage node ending) (node_of s run.node) s
