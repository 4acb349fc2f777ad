-- Rows as reads show them, and the counts of a job's tasks (Azure Batch REST reference: Get Pool, Get Job, Get Task, Get Job Task
-- Counts).
use Rattle.std.specs.Prelude.{ℕ, Bool, true, false, not, ◌&&◌, List, count_by}
use Rattle.std.specs.Option.{option_map, option_map_or}
use Rattle.bt_rows.specs.declared.reply.PoolItem.{PoolItem}
use Rattle.bt_rows.specs.declared.reply.NodeItem.{NodeItem}
use Rattle.bt_rows.specs.declared.reply.JobItem.{JobItem}
use Rattle.bt_rows.specs.declared.reply.TaskItem.{TaskItem}
use Rattle.bt_rows.specs.declared.reply.TaskCounts.{TaskCounts}
use Rattle.batch_model.specs.Nodes.{is_in_pool}
use Rattle.batch_model.specs.States.{node_state, task_state}
use Rattle.batch_model.specs.Tasks.{is_active, is_completed, is_in_job, placed_count}
use Rattle.batch_model.specs.Variants.{State, PoolRow, NodeRow, JobRow, TaskRow, Closed, NodeState, WaitingForStartTask, RunningNode}
use Rattle.batch_model.specs.WellFormed.{scales}

-- a pool; all its nodes count, also those that leave
abbrev pub pool_item : State → PoolRow → PoolItem
pool_item s pool = record {
  id = pool.id;
  deleting = pool.deleting;
  alloc = pool.alloc;
  current_dedicated = count_by (is_in_pool pool.id) s.nodes;
  current_low = 0;
  dedicated = pool.dedicated;
  low = pool.low;
  slots = pool.slots;
  scales = scales s pool.id;
  error = pool.error;
}

-- in these states a node is busy: its start task runs, or tasks hold slots of it
abbrev pub is_busy_state : NodeState → Bool
is_busy_state WaitingForStartTask = true
is_busy_state RunningNode = true
is_busy_state _ = false

-- a node
abbrev pub node_item : State → NodeRow → NodeItem
node_item s node = record {
  number = node.number;
  seat = node.seat;
  stage = node.stage;
  busy = is_busy_state (node_state node.stage s node.number);
}

-- a job
abbrev pub job_item : JobRow → JobItem
job_item job = record {
  id = job.id;
  pool = job.pool;
  state = job.state;
  priority = job.priority;
  parallel = job.parallel;
  reason = job.reason;
}

-- a task
abbrev pub task_item : State → TaskRow → TaskItem
task_item s task = record {
  id = task.id;
  line = task.line;
  state = task_state task.stage s task;
  how = option_map (λ (closed : Closed). closed.how) task.closed;
  success = option_map (λ (closed : Closed). closed.success) task.closed;
  failures = task.failures;
}

-- the task ended with success
abbrev pub has_success : TaskRow → Bool
has_success task = option_map_or (λ (closed : Closed). closed.success) task.closed false

-- an active task of the job
abbrev pub is_active_in : List ℕ → TaskRow → Bool
is_active_in job task = is_active task.stage && is_in_job job task

-- a completed task of the job
abbrev pub is_completed_in : List ℕ → TaskRow → Bool
is_completed_in job task = is_completed task.stage && is_in_job job task

-- a completed task of the job with success
abbrev pub has_succeeded_in : List ℕ → TaskRow → Bool
has_succeeded_in job task = is_completed_in job task && has_success task

-- a completed task of the job without success
abbrev pub has_failed_in : List ℕ → TaskRow → Bool
has_failed_in job task = is_completed_in job task && not (has_success task)

-- how many tasks of the job are in each state; those that are preparing are placed
abbrev pub task_counts : State → List ℕ → TaskCounts
task_counts s job = record {
  active = count_by (is_active_in job) s.tasks;
  running = placed_count s job;
  completed = count_by (is_completed_in job) s.tasks;
  succeeded = count_by (has_succeeded_in job) s.tasks;
  failed = count_by (has_failed_in job) s.tasks;
}
