-- Evaluation of a formula over a pool: the metrics that it reads, its results, and the text of these or of its first fault.
-- Source: Azure Batch documentation of automatic scaling; the texts are this project's own.
use Rattle.std.specs.Prelude.{ℕ, List, map, ℤ, Option, Some, None, Result, Ok, Err}
use Rattle.std.specs.Option.{option_map}
use Rattle.std.specs.List.{last_or}
use Rattle.bt_base.specs.FormulaFaults.{name_of, place_of}
use Rattle.bt_base.specs.declared.formula_fault.FormulaFault.{FormulaFault}
use Rattle.bt_base.specs.declared.pool_metric.Metric.TheVariants.{RunningTasks, PendingTasks, SucceededTasks, FailedTasks, TaskSlotsPerNode}
use Rattle.bt_base.specs.declared.pool_metric.Metric.TheVariants.{CurrentDedicatedNodes, CurrentLowPriorityNodes, PreemptedNodeCount}
use Rattle.bt_samples.specs.declared.history.Sample.{Sample}
use Rattle.bt_rows.specs.declared.refusal.Refusal.{Refusal}
use Rattle.bt_rows.specs.declared.refusal.Refusal.TheVariants.{FormulaRefused}
use Rattle.formula_eval.specs.Interface.{StatementTree, compiled, fault_name, MetricPart, Metrics}
use Rattle.formula_eval.specs.declared.fault.EvalFault.{EvalFault}
use Rattle.formula_eval.specs.declared.outcome.Targets.{Targets}
use Rattle.formula_eval.specs.declared.outcome.Outcome.{Outcome}
use Rattle.formula_eval.specs.Statements.{evaluated}
use Rattle.formula_eval.specs.Results.{error_text, results_text}
use Rattle.batch_model.specs.Metrics.{metric_value}
use Rattle.batch_model.specs.Samples.{samples_of}
use Rattle.batch_model.specs.Variants.{State, PoolRow, Metric, CpuPercent, ActiveTasks, SampleRow}

-- a sample without the pool and the metric that it is of
abbrev pub bare_sample : SampleRow → Sample
bare_sample row = record { label = row.label; value = row.value }

-- the history of a metric of the pool, oldest sample first
abbrev pub history_of : State → List ℕ → Metric → List Sample
history_of s pool metric = map bare_sample (samples_of s pool metric)

-- the value of the newest sample, if there is one
abbrev pub newest_value : List Sample → Option ℤ
newest_value samples = option_map (λ (sample : Sample). sample.value) (last_or None samples)

-- what a bare metric is: the newest sample of the processors' metric, and the value of another one now
abbrev pub current_of : State → PoolRow → Metric → Option ℤ
current_of s pool CpuPercent = newest_value (history_of s pool.id CpuPercent)
current_of s pool metric = Some (metric_value s pool metric)

-- a metric of the pool
abbrev pub metric_part : State → PoolRow → Metric → MetricPart
metric_part s pool metric = record { current = current_of s pool metric; history = history_of s pool.id metric }

-- the metrics of the pool
abbrev pub pool_metrics : State → PoolRow → Metrics
pool_metrics s pool = record {
  cpu_percent = metric_part s pool CpuPercent;
  active_tasks = metric_part s pool ActiveTasks;
  running_tasks = metric_part s pool RunningTasks;
  pending_tasks = metric_part s pool PendingTasks;
  succeeded_tasks = metric_part s pool SucceededTasks;
  failed_tasks = metric_part s pool FailedTasks;
  task_slots_per_node = metric_part s pool TaskSlotsPerNode;
  current_dedicated_nodes = metric_part s pool CurrentDedicatedNodes;
  current_low_priority_nodes = metric_part s pool CurrentLowPriorityNodes;
  preempted_node_count = metric_part s pool PreemptedNodeCount;
}

-- the targets that the pool has before
abbrev pub start_targets : PoolRow → Targets
start_targets pool = record { dedicated = pool.dedicated; low = pool.low }

-- the results, or the text of the fault of an evaluation
abbrev pub or_error : Result Outcome EvalFault → Result Outcome (List ℕ)
or_error (Ok outcome) = Ok outcome
or_error (Err fault) = Err (error_text (fault_name fault.fault) fault.place)

-- the results of statements over the pool, or the text of the first fault
abbrev pub statements_ran : State → PoolRow → List ℕ → Result (List StatementTree) FormulaFault → Result Outcome (List ℕ)
statements_ran s pool text (Ok ss) = or_error (evaluated text ss (pool_metrics s pool) s.moment (start_targets pool))
statements_ran s pool text (Err fault) = Err (error_text (name_of fault) (place_of fault))

-- the results of a formula over the pool, or the text of its first fault
unfoldable pub formula_ran : State → PoolRow → List ℕ → Result Outcome (List ℕ)
formula_ran s pool text = statements_ran s pool text (compiled text)

-- the text of the results, or of the fault
abbrev pub ran_text : Result Outcome (List ℕ) → List ℕ
ran_text (Ok outcome) = results_text outcome
ran_text (Err text) = text

-- a formula with a fault is refused
abbrev pub refused_fault : Result (List StatementTree) FormulaFault → Option Refusal
refused_fault (Ok ss) = None
refused_fault (Err fault) = Some (FormulaRefused fault)

-- the refusal of a formula
unfoldable pub formula_refusal : List ℕ → Option Refusal
formula_refusal text = refused_fault (compiled text)
