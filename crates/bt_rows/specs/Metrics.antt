-- Metrics that are the same.
use Rattle.std.specs.Prelude.{ℕ, Bool, nat_eq}
use Rattle.std.specs.Cmp.{IsEquivalence, on_equiv, nat_eq_equiv}
use Rattle.bt_base.specs.declared.pool_metric.Metric.{Metric}
use Rattle.bt_base.specs.declared.pool_metric.Metric.TheVariants.{CpuPercent, ActiveTasks, RunningTasks, PendingTasks, SucceededTasks, FailedTasks, TaskSlotsPerNode, CurrentDedicatedNodes, CurrentLowPriorityNodes, PreemptedNodeCount}

-- a number for each metric
abbrev pub place_of_metric : Metric → ℕ
place_of_metric CpuPercent = 0
place_of_metric ActiveTasks = 1
place_of_metric RunningTasks = 2
place_of_metric PendingTasks = 3
place_of_metric SucceededTasks = 4
place_of_metric FailedTasks = 5
place_of_metric TaskSlotsPerNode = 6
place_of_metric CurrentDedicatedNodes = 7
place_of_metric CurrentLowPriorityNodes = 8
place_of_metric PreemptedNodeCount = 9

-- both are the same metric
abbrev pub same_metric : Metric → Metric → Bool
same_metric a b = nat_eq (place_of_metric a) (place_of_metric b)

-- which is an equivalence
pub metric_equiv : IsEquivalence same_metric
metric_equiv = on_equiv place_of_metric nat_eq_equiv
