-- The states of nodes and tasks, as replies and tables show them. They follow from the stages and the runs in the tables.
-- Source: Azure Batch REST reference, ComputeNodeState and TaskState; the form is this project's own.
use Rattle.std.specs.Prelude.{ℕ, Bool, ◌&&◌, nat_eq, nat_lt, if◌then◌else◌}
use Rattle.std.specs.List.{list_any}
use Rattle.batch_model.specs.Runs.{is_start, is_taken, is_waiting, is_present}
use Rattle.batch_model.specs.Slots.{held_slots}
use Rattle.batch_model.specs.Variants.{State, NodeStage, Starting, Usable, StartFailed, Leaving, NodeState, StartingNode, WaitingForStartTask, StartTaskFailed, Idle, RunningNode, LeavingPool, TaskRow, TaskStage, Active, Placed, Completed, TaskState, ActiveTask, Preparing, RunningTask, CompletedTask, RunRow}

-- the run is of the start task of the node with this number, and its child program runs
abbrev pub is_start_on : ℕ → RunRow → Bool
is_start_on node run = is_taken run.state && (is_start run.kind && nat_eq run.node node)

-- the start task of the node runs
abbrev pub is_start_taken : State → ℕ → Bool
is_start_taken s node = list_any (is_start_on node) s.runs

-- the state of the node with this number, by its stage
abbrev pub node_state : NodeStage → State → ℕ → NodeState
node_state Starting s node = if is_start_taken s node then WaitingForStartTask else StartingNode
node_state Usable s node = if nat_lt 0 (held_slots s node) then RunningNode else Idle
node_state StartFailed s node = StartTaskFailed
node_state (Leaving option) s node = LeavingPool

-- the run is of the task's present attempt, and waits for a preparation
abbrev pub is_waiting_for : TaskRow → RunRow → Bool
is_waiting_for task run = is_waiting run.state && is_present task run

-- a run of the task's present attempt waits for a preparation
abbrev pub is_preparing : State → TaskRow → Bool
is_preparing s task = list_any (is_waiting_for task) s.runs

-- the state of the task, by its stage
abbrev pub task_state : TaskStage → State → TaskRow → TaskState
task_state Active s task = ActiveTask
task_state Placed s task = if is_preparing s task then Preparing else RunningTask
task_state Completed s task = CompletedTask
