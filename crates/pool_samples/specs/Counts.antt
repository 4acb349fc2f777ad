-- What the metrics of a pool are made of, and what a task adds to them.
use Rattle.std.specs.Prelude.{ℕ, ◌+◌, ◌*◌, Bool, not, ◌&&◌, cond, List, ℤ, pos}
use Rattle.bt_base.specs.declared.pool_metric.Metric.TheVariants.{RunningTasks, PendingTasks, SucceededTasks, FailedTasks, TaskSlotsPerNode}
use Rattle.bt_base.specs.declared.pool_metric.Metric.TheVariants.{CurrentDedicatedNodes, CurrentLowPriorityNodes, PreemptedNodeCount}
use Rattle.batch_model.specs.Metrics.{active_tasks, failed_tasks, has_succeeded, instances, is_awaited, is_for_pool, node_count, running_tasks, succeeded_tasks}
use Rattle.batch_model.specs.Tasks.{is_placed, is_completed}
use Rattle.batch_model.specs.Variants.{State, PoolRow, TaskRow, Metric, CpuPercent, ActiveTasks}
use Rattle.pool_samples.specs.declared.counts.TaskCounts.{TaskCounts}
use Rattle.pool_samples.specs.declared.metrics.PoolMetrics.{PoolMetrics}

-- the instances of a task that wait for nodes of the pool
abbrev pub waiting_part : State → List ℕ → TaskRow → ℕ
waiting_part s pool task = cond (is_awaited s pool task) (instances task) 0

-- a placed task of the pool
abbrev pub is_running : State → List ℕ → TaskRow → Bool
is_running s pool task = is_for_pool s pool task && is_placed task.stage

-- a task of the pool that is completed with success
abbrev pub is_succeeded : State → List ℕ → TaskRow → Bool
is_succeeded s pool task = is_for_pool s pool task && (is_completed task.stage && has_succeeded task)

-- a task of the pool that is completed without success
abbrev pub is_failed : State → List ℕ → TaskRow → Bool
is_failed s pool task = is_for_pool s pool task && (is_completed task.stage && not (has_succeeded task))

-- what a task adds
abbrev pub task_counts : State → List ℕ → TaskRow → TaskCounts
task_counts s pool task = record {
  active = waiting_part s pool task;
  running = cond (is_running s pool task) 1 0;
  succeeded = cond (is_succeeded s pool task) 1 0;
  failed = cond (is_failed s pool task) 1 0;
}

-- both together
abbrev pub plus : TaskCounts → TaskCounts → TaskCounts
plus one other = record {
  active = one.active + other.active;
  running = one.running + other.running;
  succeeded = one.succeeded + other.succeeded;
  failed = one.failed + other.failed;
}

-- the counts of a pool
abbrev pub counts_of : State → List ℕ → TaskCounts
counts_of s pool = record {
  active = active_tasks s pool;
  running = running_tasks s pool;
  succeeded = succeeded_tasks s pool;
  failed = failed_tasks s pool;
}

-- what the metrics of a pool are made of
abbrev pub metrics_of : State → PoolRow → PoolMetrics
metrics_of s pool = record {
  active = active_tasks s pool.id;
  running = running_tasks s pool.id;
  succeeded = succeeded_tasks s pool.id;
  failed = failed_tasks s pool.id;
  nodes = node_count s pool.id;
  slots = pool.slots;
}

-- the count that a metric is
abbrev pub count_of : PoolMetrics → Metric → ℕ
count_of metrics CpuPercent = 0
count_of metrics ActiveTasks = metrics.active
count_of metrics RunningTasks = metrics.running
count_of metrics PendingTasks = metrics.active + metrics.running
count_of metrics SucceededTasks = metrics.succeeded
count_of metrics FailedTasks = metrics.failed
count_of metrics TaskSlotsPerNode = metrics.slots
count_of metrics CurrentDedicatedNodes = metrics.nodes
count_of metrics CurrentLowPriorityNodes = 0
count_of metrics PreemptedNodeCount = 0

-- its value, in millionths
abbrev pub value_of : PoolMetrics → Metric → ℤ
value_of metrics metric = pos (1000000 * count_of metrics metric)
