-- What metrics are made of gives their values.
use Rattle.std.proofs.Common.{◌≡◌, ℕ, ◌≤◌, ◌<◌, ◌^◌, List, length, count_by, refl, arith}
use Rattle.std.proofs.lemmas.List.Sums.{count_by-le-length}
use Rattle.bt_base.specs.declared.pool_metric.Metric.TheVariants.{RunningTasks, PendingTasks, SucceededTasks, FailedTasks, TaskSlotsPerNode}
use Rattle.bt_base.specs.declared.pool_metric.Metric.TheVariants.{CurrentDedicatedNodes, CurrentLowPriorityNodes, PreemptedNodeCount}
use Rattle.batch_model.specs.Metrics.{metric_value}
use Rattle.batch_model.specs.Nodes.{is_in_pool}
use Rattle.batch_model.specs.Variants.{State, PoolRow, NodeRow, Metric, CpuPercent, ActiveTasks}
use Rattle.pool_samples.specs.Counts.{metrics_of, value_of}

-- the value of each metric
pub value_of_metrics : (s : State) (pool : PoolRow) (metric : Metric) → value_of (metrics_of s pool) metric ≡ metric_value s pool metric
value_of_metrics s pool CpuPercent = refl
value_of_metrics s pool ActiveTasks = refl
value_of_metrics s pool RunningTasks = refl
value_of_metrics s pool PendingTasks = refl
value_of_metrics s pool SucceededTasks = refl
value_of_metrics s pool FailedTasks = refl
value_of_metrics s pool TaskSlotsPerNode = refl
value_of_metrics s pool CurrentDedicatedNodes = refl
value_of_metrics s pool CurrentLowPriorityNodes = refl
value_of_metrics s pool PreemptedNodeCount = refl

-- the nodes of a pool are few, if all are
pub few_counted : (pool : List ℕ) (nodes : List NodeRow) → length nodes ≤ 32 → count_by (is_in_pool pool) nodes < 2 ^ 32
few_counted pool nodes h = omega (arith, h, count_by-le-length (is_in_pool pool) nodes)
