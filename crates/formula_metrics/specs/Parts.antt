-- The metrics of a pool.
use Rattle.std.specs.Prelude.{ℕ, ℤ, [], Option, None}
use Rattle.bt_samples.specs.Histories.{pushed}
use Rattle.bt_base.specs.declared.pool_metric.Metric.{Metric}
use Rattle.bt_base.specs.declared.pool_metric.Metric.TheVariants.{CpuPercent, ActiveTasks, RunningTasks, PendingTasks, SucceededTasks, FailedTasks}
use Rattle.bt_base.specs.declared.pool_metric.Metric.TheVariants.{TaskSlotsPerNode, CurrentDedicatedNodes, CurrentLowPriorityNodes, PreemptedNodeCount}
use Rattle.formula_metrics.specs.declared.metrics.MetricPart.{MetricPart}
use Rattle.formula_metrics.specs.declared.metrics.Metrics.{Metrics}

-- a metric without a current value and without samples
abbrev pub blank : MetricPart
blank = record { current = None; history = [] }

-- metrics without current values and without samples
abbrev pub blank_metrics : Metrics
blank_metrics = record {
  cpu_percent = blank;
  active_tasks = blank;
  running_tasks = blank;
  pending_tasks = blank;
  succeeded_tasks = blank;
  failed_tasks = blank;
  task_slots_per_node = blank;
  current_dedicated_nodes = blank;
  current_low_priority_nodes = blank;
  preempted_node_count = blank;
}

-- one of the metrics
abbrev pub part_of : Metrics → Metric → MetricPart
part_of metrics CpuPercent = metrics.cpu_percent
part_of metrics ActiveTasks = metrics.active_tasks
part_of metrics RunningTasks = metrics.running_tasks
part_of metrics PendingTasks = metrics.pending_tasks
part_of metrics SucceededTasks = metrics.succeeded_tasks
part_of metrics FailedTasks = metrics.failed_tasks
part_of metrics TaskSlotsPerNode = metrics.task_slots_per_node
part_of metrics CurrentDedicatedNodes = metrics.current_dedicated_nodes
part_of metrics CurrentLowPriorityNodes = metrics.current_low_priority_nodes
part_of metrics PreemptedNodeCount = metrics.preempted_node_count

-- the metrics, of which this one has changed
abbrev pub with_part : Metrics → Metric → MetricPart → Metrics
with_part metrics CpuPercent part = record metrics { cpu_percent = part }
with_part metrics ActiveTasks part = record metrics { active_tasks = part }
with_part metrics RunningTasks part = record metrics { running_tasks = part }
with_part metrics PendingTasks part = record metrics { pending_tasks = part }
with_part metrics SucceededTasks part = record metrics { succeeded_tasks = part }
with_part metrics FailedTasks part = record metrics { failed_tasks = part }
with_part metrics TaskSlotsPerNode part = record metrics { task_slots_per_node = part }
with_part metrics CurrentDedicatedNodes part = record metrics { current_dedicated_nodes = part }
with_part metrics CurrentLowPriorityNodes part = record metrics { current_low_priority_nodes = part }
with_part metrics PreemptedNodeCount part = record metrics { preempted_node_count = part }

-- with this current value
abbrev pub with_current : MetricPart → Option ℤ → MetricPart
with_current part value = record part { current = value }

-- with this sample, unless its label is not above that of the newest
abbrev pub with_sample : MetricPart → ℕ → ℤ → MetricPart
with_sample part time number = record part { history = pushed part.history (record { label = time; value = number }) }
