-- Pools, nodes, jobs, tasks and counts as JSON. The names of members are those of the Azure Batch REST reference where it has them.
use Rattle.std.specs.Prelude.{ℕ, Bool, List, [], ◌∷◌, map, Option, codes, if◌then◌else◌}
use Rattle.std.specs.Option.{option_map, option_to_list}
use Rattle.serde_json.specs.Data.{Data, boolean, string, object, Members}
use Rattle.batch_model.specs.Variants.{NodeStage, Starting, Usable, StartFailed, Leaving, NodeState, StartingNode, WaitingForStartTask, StartTaskFailed, Idle, RunningNode, LeavingPool, ResizeError, AllocationTimedOut, ResizeStopped}
use Rattle.bt_rows.specs.declared.reply.PoolItem.{PoolItem}
use Rattle.bt_rows.specs.declared.reply.NodeItem.{NodeItem}
use Rattle.bt_rows.specs.declared.reply.JobItem.{JobItem}
use Rattle.bt_rows.specs.declared.reply.TaskItem.{TaskItem}
use Rattle.bt_rows.specs.declared.reply.TaskCounts.{TaskCounts}
use Rattle.bt_rows.specs.declared.reply.Item.{Item}
use Rattle.bt_rows.specs.declared.reply.Item.TheVariants as items
use Rattle.wire_words.specs.Nodes.{node_id}
use Rattle.wire_words.specs.Words.{pool_state_word, alloc_word, node_state_word, job_state_word, task_state_word, how_text, success_word}
use Rattle.wire_json.specs.Members.{count_data, whole_data, texts_data, members_with, with_member}

-- why a resize ended before its target was reached
unfoldable pub resize_error_name : ResizeError → List ℕ
resize_error_name AllocationTimedOut = codes "AllocationTimedOut"
resize_error_name ResizeStopped = codes "ResizeStopped"

-- the names of the errors of the last resize
abbrev pub resize_errors : Option ResizeError → List (List ℕ)
resize_errors error = map resize_error_name (option_to_list error)

unfoldable pub pool_data : PoolItem → Data
pool_data pool = object (members_with (
    (codes "allocationState", string (alloc_word pool.alloc))
    ∷ (codes "currentDedicatedNodes", count_data pool.current_dedicated)
    ∷ (codes "currentLowPriorityNodes", count_data pool.current_low)
    ∷ (codes "enableAutoScale", boolean pool.scales)
    ∷ (codes "id", string pool.id)
    ∷ (codes "resizeErrors", texts_data (resize_errors pool.error))
    ∷ (codes "state", string (pool_state_word pool.deleting))
    ∷ (codes "targetDedicatedNodes", count_data pool.dedicated)
    ∷ (codes "targetLowPriorityNodes", count_data pool.low)
    ∷ (codes "taskSlotsPerNode", count_data pool.slots)
    ∷ []))

-- the state of a node by its stage, and by whether it is busy
abbrev pub item_state : NodeStage → Bool → NodeState
item_state Starting busy = if busy then WaitingForStartTask else StartingNode
item_state Usable busy = if busy then RunningNode else Idle
item_state StartFailed busy = StartTaskFailed
item_state (Leaving option) busy = LeavingPool

unfoldable pub node_data : NodeItem → Data
node_data node = object (members_with (
    (codes "id", string (node_id node.number))
    ∷ (codes "seat", count_data node.seat)
    ∷ (codes "state", string (node_state_word (item_state node.stage node.busy)))
    ∷ []))

-- `terminateReason` is there if the job was terminated
unfoldable pub job_data : JobItem → Data
job_data job = object (with_member (codes "terminateReason") (option_map string job.reason) (members_with (
    (codes "id", string job.id)
    ∷ (codes "maxParallelTasks", whole_data job.parallel)
    ∷ (codes "poolId", string job.pool)
    ∷ (codes "priority", whole_data job.priority)
    ∷ (codes "state", string (job_state_word job.state))
    ∷ [])))

-- the members of a task that are always there
unfoldable pub task_members : TaskItem → Members
task_members task = members_with (
    (codes "commandLine", string task.line)
    ∷ (codes "id", string task.id)
    ∷ (codes "retryCount", count_data task.failures)
    ∷ (codes "state", string (task_state_word task.state))
    ∷ [])

-- `exit` and `result` are there if the task is completed
unfoldable pub task_data : TaskItem → Data
task_data task = object (
    with_member (codes "exit") (option_map (λ exit. string (how_text exit)) task.how) (
    with_member (codes "result") (option_map (λ well. string (success_word well)) task.success) (task_members task)))

unfoldable pub counts_data : TaskCounts → Data
counts_data counts = object (members_with ((
  codes "taskCounts",
  object (members_with (
      (codes "active", count_data counts.active)
      ∷ (codes "completed", count_data counts.completed)
      ∷ (codes "failed", count_data counts.failed)
      ∷ (codes "running", count_data counts.running)
      ∷ (codes "succeeded", count_data counts.succeeded)
      ∷ [])),
) ∷ []))

abbrev pub item_data : Item → Data
item_data (items.Pool pool) = pool_data pool
item_data (items.Node node) = node_data node
item_data (items.Job job) = job_data job
item_data (items.Task task) = task_data task
item_data (items.Counts counts) = counts_data counts
