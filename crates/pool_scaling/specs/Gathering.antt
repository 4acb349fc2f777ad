-- The metrics of a pool, gathered by going once over the samples.
use Rattle.std.specs.Prelude.{ℕ, List, [], ◌∷◌, Some, None, if◌then◌else◌}
use Rattle.bt_base.specs.Ids.{same}
use Rattle.bt_base.specs.declared.pool_metric.Metric.TheVariants.{RunningTasks, PendingTasks, SucceededTasks, FailedTasks, TaskSlotsPerNode}
use Rattle.bt_base.specs.declared.pool_metric.Metric.TheVariants.{CurrentDedicatedNodes, CurrentLowPriorityNodes, PreemptedNodeCount}
use Rattle.formula_metrics.specs.declared.metrics.MetricPart.{MetricPart}
use Rattle.formula_metrics.specs.declared.metrics.Metrics.{Metrics}
use Rattle.formula_metrics.specs.Parts.{part_of, with_part, with_current, with_sample}
use Rattle.batch_model.specs.Formulas.{history_of}
use Rattle.batch_model.specs.Variants.{State, Metric, CpuPercent, ActiveTasks, SampleRow}
use Rattle.pool_samples.specs.declared.metrics.PoolMetrics.{PoolMetrics}
use Rattle.pool_samples.specs.Counts.{value_of}

-- with the sample, if it is of the pool
abbrev pub with_row : List ℕ → SampleRow → Metrics → Metrics
with_row pool sample metrics =
    if same sample.pool pool then with_part metrics sample.metric (with_sample (part_of metrics sample.metric) sample.label sample.value)
    else metrics

-- with each sample of the pool
abbrev pub with_rows : List ℕ → List SampleRow → Metrics → Metrics
with_rows pool [] metrics = metrics
with_rows pool (sample ∷ samples) metrics = with_rows pool samples (with_row pool sample metrics)

-- the samples of a metric, without its value now
abbrev pub sampled_part : State → List ℕ → Metric → MetricPart
sampled_part s pool metric = record { current = None; history = history_of s pool metric }

-- the samples of each metric of the pool
abbrev pub sampled : State → List ℕ → Metrics
sampled s pool = record {
  cpu_percent = sampled_part s pool CpuPercent;
  active_tasks = sampled_part s pool ActiveTasks;
  running_tasks = sampled_part s pool RunningTasks;
  pending_tasks = sampled_part s pool PendingTasks;
  succeeded_tasks = sampled_part s pool SucceededTasks;
  failed_tasks = sampled_part s pool FailedTasks;
  task_slots_per_node = sampled_part s pool TaskSlotsPerNode;
  current_dedicated_nodes = sampled_part s pool CurrentDedicatedNodes;
  current_low_priority_nodes = sampled_part s pool CurrentLowPriorityNodes;
  preempted_node_count = sampled_part s pool PreemptedNodeCount;
}

-- with the value of the metric now
abbrev pub with_value : PoolMetrics → Metric → Metrics → Metrics
with_value values metric metrics = with_part metrics metric (with_current (part_of metrics metric) (Some (value_of values metric)))

-- with the values of all metrics but that of the processors
abbrev pub with_values : PoolMetrics → Metrics → Metrics
with_values values metrics =
    with_value values PreemptedNodeCount
    (with_value values CurrentLowPriorityNodes
    (with_value values CurrentDedicatedNodes
    (with_value values TaskSlotsPerNode
    (with_value values FailedTasks
    (with_value values SucceededTasks
    (with_value values PendingTasks (with_value values RunningTasks (with_value values ActiveTasks metrics))))))))
