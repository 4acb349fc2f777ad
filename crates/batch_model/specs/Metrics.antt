-- The values of a pool's metrics now.
-- Source: Azure Batch documentation of automatic scaling, its list of variables; what counts as ready is this project's own.
use Rattle.std.specs.Prelude.{ℕ, ◌+◌, ◌*◌, Bool, false, not, ◌&&◌, List, [], ◌∷◌, ℤ, pos, count_by, filter, sum_by}
use Rattle.std.specs.Option.{option_map_or}
use Rattle.std.specs.List.{list_any}
use Rattle.bt_base.specs.Ids.{same}
use Rattle.bt_base.specs.declared.pool_metric.Metric.TheVariants.{RunningTasks, PendingTasks, SucceededTasks, FailedTasks, TaskSlotsPerNode}
use Rattle.bt_base.specs.declared.pool_metric.Metric.TheVariants.{CurrentDedicatedNodes, CurrentLowPriorityNodes, PreemptedNodeCount}
use Rattle.batch_model.specs.Rows.{is_job}
use Rattle.batch_model.specs.Tasks.{is_placed, is_completed}
use Rattle.batch_model.specs.Jobs.{is_job_active}
use Rattle.batch_model.specs.Nodes.{is_in_pool}
use Rattle.batch_model.specs.Readiness.{is_ready}
use Rattle.batch_model.specs.Samples.{new_sample, add_sample}
use Rattle.batch_model.specs.Variants.{State, PoolRow, JobRow, TaskRow, Multi, Closed, Metric, CpuPercent, ActiveTasks}

-- the job is in the pool and has the task
abbrev pub has_task_in_pool : List ℕ → TaskRow → JobRow → Bool
has_task_in_pool pool task job = is_job task.job job && same job.pool pool

-- the task is one of a job in the pool
abbrev pub is_for_pool : State → List ℕ → TaskRow → Bool
is_for_pool s pool task = list_any (has_task_in_pool pool task) s.jobs

-- the task is one of an active job in the pool
abbrev pub is_for_active_job : State → List ℕ → TaskRow → Bool
is_for_active_job s pool task = list_any (λ job. has_task_in_pool pool task job && is_job_active job.state) s.jobs

-- a ready task of an active job in the pool
abbrev pub is_awaited : State → List ℕ → TaskRow → Bool
is_awaited s pool task = is_ready s task && is_for_active_job s pool task

-- a task of several instances counts as often as it has instances
abbrev pub instances : TaskRow → ℕ
instances task = option_map_or (λ (multi : Multi). multi.count) task.multi 1

-- how many instances wait for nodes
abbrev pub active_tasks : State → List ℕ → ℕ
active_tasks s pool = sum_by instances (filter (is_awaited s pool) s.tasks)

-- how many tasks are placed
abbrev pub running_tasks : State → List ℕ → ℕ
running_tasks s pool = count_by (λ task. is_for_pool s pool task && is_placed task.stage) s.tasks

-- the task is completed with success
abbrev pub has_succeeded : TaskRow → Bool
has_succeeded task = option_map_or (λ (closed : Closed). closed.success) task.closed false

-- how many tasks are completed with success
abbrev pub succeeded_tasks : State → List ℕ → ℕ
succeeded_tasks s pool = count_by (λ task. is_for_pool s pool task && (is_completed task.stage && has_succeeded task)) s.tasks

-- how many tasks are completed without success
abbrev pub failed_tasks : State → List ℕ → ℕ
failed_tasks s pool = count_by (λ task. is_for_pool s pool task && (is_completed task.stage && not (has_succeeded task))) s.tasks

-- how many nodes the pool has, those that are leaving among them
abbrev pub node_count : State → List ℕ → ℕ
node_count s pool = count_by (is_in_pool pool) s.nodes

-- the value of a metric; that of the processors is handed in by samples alone
abbrev pub metric_count : State → PoolRow → Metric → ℕ
metric_count s pool CpuPercent = 0
metric_count s pool ActiveTasks = active_tasks s pool.id
metric_count s pool RunningTasks = running_tasks s pool.id
metric_count s pool PendingTasks = active_tasks s pool.id + running_tasks s pool.id
metric_count s pool SucceededTasks = succeeded_tasks s pool.id
metric_count s pool FailedTasks = failed_tasks s pool.id
metric_count s pool TaskSlotsPerNode = pool.slots
metric_count s pool CurrentDedicatedNodes = node_count s pool.id
metric_count s pool CurrentLowPriorityNodes = 0
metric_count s pool PreemptedNodeCount = 0

-- the value in millionths
abbrev pub metric_value : State → PoolRow → Metric → ℤ
metric_value s pool metric = pos (1000000 * metric_count s pool metric)

-- all metrics but that of the processors
abbrev pub sampled_metrics : List Metric
sampled_metrics =
    ActiveTasks ∷ RunningTasks ∷ PendingTasks ∷ SucceededTasks ∷ FailedTasks ∷ TaskSlotsPerNode ∷ CurrentDedicatedNodes ∷ CurrentLowPriorityNodes
    ∷ PreemptedNodeCount ∷ []

-- a sample of each of these metrics, with its value in the tables `s`, is added to the tables `after`
abbrev pub add_samples : State → PoolRow → List Metric → State → State
add_samples s pool [] after = after
add_samples s pool (metric ∷ metrics) after =
    add_samples s pool metrics (add_sample (new_sample s pool.id metric (metric_value s pool metric)) after)
