-- Going once over the samples gathers the metrics of a pool.
use Rattle.std.proofs.Common.{◌≡◌, ℕ, ◌-◌, ◌≤◌, Bool, true, false, ◌&&◌, nat_eq, nat_le, nat_lt, List, [], ◌∷◌, ◌++◌, length, filter, find, map, drop, take, reverse, cond, Some, None, refl, sym, ◌∙◌, ap, subst, arith}
use Rattle.std.specs.Prelude.{slice_get, option_map}
use Rattle.std.specs.List.{list_any, list_all, last_or}
use mathlib.Core.List.{reverse_aux}
use Rattle.std.proofs.lemmas.Bool.Decides.{Decides-eqb, nat_tests}
use Rattle.std.proofs.lemmas.List.{append_assoc, length-map}
use Rattle.std.proofs.lemmas.List.Sums.{length-filter}
use Rattle.bt_base.specs.Ids.{same}
use Rattle.bt_base.specs.declared.pool_metric.Metric.TheVariants.{RunningTasks, PendingTasks, SucceededTasks, FailedTasks, TaskSlotsPerNode}
use Rattle.bt_base.specs.declared.pool_metric.Metric.TheVariants.{CurrentDedicatedNodes, CurrentLowPriorityNodes, PreemptedNodeCount}
use Rattle.bt_base.proofs.SameIds.{same_equiv}
use Rattle.bt_samples.specs.declared.history.Sample.{Sample}
use Rattle.bt_samples.specs.Histories.{last_kept, last_values, values}
use Rattle.bt_samples.specs.KeptSamples.{is_before, pushed_all, taken_after}
use Rattle.bt_samples.proofs.LastTaken.{holds_the_last_taken}
use Rattle.bt_rows.specs.Lists.{AreDistinct}
use Rattle.bt_rows.specs.Metrics.{place_of_metric, same_metric, metric_equiv}
use Rattle.formula_metrics.specs.declared.metrics.MetricPart.{MetricPart}
use Rattle.formula_metrics.specs.declared.metrics.Metrics.{Metrics}
use Rattle.formula_metrics.specs.Parts.{blank_metrics, part_of, with_current, with_part, with_sample}
use Rattle.batch_model.specs.Finding.{Each}
use Rattle.batch_model.specs.Formulas.{bare_sample, history_of, newest_value, pool_metrics}
use Rattle.batch_model.specs.Samples.{sample_limit, is_sample_of, samples_of}
use Rattle.batch_model.specs.WellFormed.{PoolsAreFitting, are_labels_out_of_order, has_kept}
use Rattle.batch_model.specs.Variants.{State, PoolRow, Metric, CpuPercent, ActiveTasks, SampleRow}
use Rattle.model_lists.proofs.NextNumbers.{ordered}
use Rattle.model_lists.proofs.RowLists.{any_none, each_found, filter_agree, find_any, find_test}
use Rattle.model_lists.proofs.RowSums.{count_none}
use Rattle.model_lists.proofs.Tests.{and_first, and_second, and_true, or_false, or_false_first, or_false_second}
use Rattle.pool_samples.specs.Counts.{metrics_of}
use Rattle.pool_scaling.specs.Gathering.{sampled, sampled_part, with_row, with_rows, with_values}

-- metrics by their parts

-- metrics with these parts
abbrev of_parts : (Metric → MetricPart) → Metrics
of_parts give = record {
  cpu_percent = give CpuPercent;
  active_tasks = give ActiveTasks;
  running_tasks = give RunningTasks;
  pending_tasks = give PendingTasks;
  succeeded_tasks = give SucceededTasks;
  failed_tasks = give FailedTasks;
  task_slots_per_node = give TaskSlotsPerNode;
  current_dedicated_nodes = give CurrentDedicatedNodes;
  current_low_priority_nodes = give CurrentLowPriorityNodes;
  preempted_node_count = give PreemptedNodeCount;
}

part_of_parts : (give : Metric → MetricPart) (metric : Metric) → part_of (of_parts give) metric ≡ give metric
part_of_parts give CpuPercent = refl
part_of_parts give ActiveTasks = refl
part_of_parts give RunningTasks = refl
part_of_parts give PendingTasks = refl
part_of_parts give SucceededTasks = refl
part_of_parts give FailedTasks = refl
part_of_parts give TaskSlotsPerNode = refl
part_of_parts give CurrentDedicatedNodes = refl
part_of_parts give CurrentLowPriorityNodes = refl
part_of_parts give PreemptedNodeCount = refl

-- with one part in place of that of a metric
abbrev changed_part : Metrics → Metric → MetricPart → Metric → MetricPart
changed_part metrics at part metric = cond (same_metric at metric) part (part_of metrics metric)

with_part_is : (metrics : Metrics) (at : Metric) (part : MetricPart) → with_part metrics at part ≡ of_parts (changed_part metrics at part)
with_part_is metrics CpuPercent part = refl
with_part_is metrics ActiveTasks part = refl
with_part_is metrics RunningTasks part = refl
with_part_is metrics PendingTasks part = refl
with_part_is metrics SucceededTasks part = refl
with_part_is metrics FailedTasks part = refl
with_part_is metrics TaskSlotsPerNode part = refl
with_part_is metrics CurrentDedicatedNodes part = refl
with_part_is metrics CurrentLowPriorityNodes part = refl
with_part_is metrics PreemptedNodeCount part = refl

part_of_with_part : (metrics : Metrics) (at : Metric) (part : MetricPart) (metric : Metric) → part_of (with_part metrics at part) metric ≡ changed_part metrics at part metric
part_of_with_part metrics at part metric =
    ap (λ all. part_of all metric) (with_part_is metrics at part) ∙ part_of_parts (changed_part metrics at part) metric

-- the part of the metric with this place
abbrev part_at : Metrics → ℕ → MetricPart
part_at metrics place =
    cond (nat_eq place 0) metrics.cpu_percent
    (cond (nat_eq place 1) metrics.active_tasks
    (cond (nat_eq place 2) metrics.running_tasks
    (cond (nat_eq place 3) metrics.pending_tasks
    (cond (nat_eq place 4) metrics.succeeded_tasks
    (cond (nat_eq place 5) metrics.failed_tasks
    (cond (nat_eq place 6) metrics.task_slots_per_node
    (cond (nat_eq place 7) metrics.current_dedicated_nodes
    (cond (nat_eq place 8) metrics.current_low_priority_nodes metrics.preempted_node_count))))))))

at_own_place : (metrics : Metrics) (metric : Metric) → part_of metrics metric ≡ part_at metrics (place_of_metric metric)
at_own_place metrics CpuPercent = refl
at_own_place metrics ActiveTasks = refl
at_own_place metrics RunningTasks = refl
at_own_place metrics PendingTasks = refl
at_own_place metrics SucceededTasks = refl
at_own_place metrics FailedTasks = refl
at_own_place metrics TaskSlotsPerNode = refl
at_own_place metrics CurrentDedicatedNodes = refl
at_own_place metrics CurrentLowPriorityNodes = refl
at_own_place metrics PreemptedNodeCount = refl

-- the same metric has the same part
same_part : (metrics : Metrics) (at metric : Metric) → same_metric at metric ≡ true → part_of metrics at ≡ part_of metrics metric
same_part metrics at metric h =
    at_own_place metrics at
    ∙ ap (part_at metrics) ((Decides-eqb (place_of_metric at) (place_of_metric metric)).0 h)
    ∙ sym (at_own_place metrics metric)

module _ (pool : List ℕ) (metric : Metric) where
  -- one sample

  -- a part with the sample
  abbrev with_one : SampleRow → MetricPart → MetricPart
  with_one sample part = with_sample part sample.label sample.value

  row_part : (sample : SampleRow) (metrics : Metrics)
      → part_of (with_row pool sample metrics) metric ≡ cond (is_sample_of pool metric sample) (with_one sample (part_of metrics metric)) (part_of metrics metric)
  row_part sample metrics = by_pool (same sample.pool pool) (same_metric sample.metric metric) refl
    where
      by_pool : (own same_one : Bool) → same_metric sample.metric metric ≡ same_one
          → part_of (cond own (with_part metrics sample.metric (with_one sample (part_of metrics sample.metric))) metrics) metric
          ≡ cond (own && same_one) (with_one sample (part_of metrics metric)) (part_of metrics metric)
      by_pool false same_one e = refl
      by_pool true true e =
          part_of_with_part metrics sample.metric (with_one sample (part_of metrics sample.metric)) metric
          ∙ ap (λ b. cond b (with_one sample (part_of metrics sample.metric)) (part_of metrics metric)) e
          ∙ ap (with_one sample) (same_part metrics sample.metric metric e)
      by_pool true false e =
          part_of_with_part metrics sample.metric (with_one sample (part_of metrics sample.metric)) metric
          ∙ ap (λ b. cond b (with_one sample (part_of metrics sample.metric)) (part_of metrics metric)) e

  -- all samples

  -- a part to which these samples were pushed
  abbrev with_all : MetricPart → List Sample → MetricPart
  with_all part samples = record part { history = pushed_all part.history samples }

  -- the samples of the metric among these
  abbrev bare : List SampleRow → List Sample
  bare rows = map bare_sample (filter (is_sample_of pool metric) rows)

  rows_part : (rows : List SampleRow) (metrics : Metrics) → part_of (with_rows pool rows metrics) metric ≡ with_all (part_of metrics metric) (bare rows)
  rows_part [] metrics = refl
  rows_part (sample ∷ rows) metrics =
      rows_part rows (with_row pool sample metrics)
      ∙ ap (λ part. with_all part (bare rows)) (row_part sample metrics)
      ∙ by_test (is_sample_of pool metric sample)
    where
      by_test : (b : Bool)
          → with_all (cond b (with_one sample (part_of metrics metric)) (part_of metrics metric)) (bare rows)
          ≡ with_all (part_of metrics metric) (map bare_sample (cond b (sample ∷ filter (is_sample_of pool metric) rows) (filter (is_sample_of pool metric) rows)))
      by_test true = refl
      by_test false = refl

-- samples whose labels rise are all taken

-- the label of the later one is not above that of the earlier one
abbrev falls : Sample → Sample → Bool
falls one later = nat_le later.label one.label

before_all : (earlier : List Sample) (sample : Sample) (rest : List Sample) → AreDistinct falls (earlier ++ sample ∷ rest) → list_all (is_before sample.label) earlier ≡ true
before_all [] sample rest d = refl
before_all (one ∷ earlier) sample rest d =
    and_true (rises one.label sample.label (later earlier d.0)) (before_all earlier sample rest d.1)
  where
    rises : (a b : ℕ) → nat_le b a ≡ false → nat_lt a b ≡ true
    rises a b h = grind (arith, nat_tests)

    later : (between : List Sample) → list_any (falls one) (between ++ sample ∷ rest) ≡ false → falls one sample ≡ false
    later [] h = or_false_first (falls one sample) (list_any (falls one) rest) h
    later (other ∷ between) h = later between (or_false_second (falls one other) (list_any (falls one) (between ++ sample ∷ rest)) h)

all_taken : (earlier samples : List Sample) → AreDistinct falls (earlier ++ samples) → taken_after earlier samples ≡ samples
all_taken earlier [] d = refl
all_taken earlier (sample ∷ samples) d =
    ap (λ b. cond b (sample ∷ taken_after (earlier ++ sample ∷ []) samples) (taken_after (earlier ++ sample ∷ []) samples))
    (before_all earlier sample samples d)
    ∙ ap (λ rest. sample ∷ rest)
    (all_taken (earlier ++ sample ∷ []) samples (subst (AreDistinct falls) (sym (append_assoc earlier (sample ∷ []) samples)) d))

-- and kept, if there are not too many
all_kept : (samples : List Sample) → AreDistinct falls samples → length samples ≤ 2880 → pushed_all [] samples ≡ samples
all_kept samples d few =
    let none : length samples - 2880 ≡ 0 = omega (arith, few) in
    holds_the_last_taken samples
    ∙ ap last_kept (all_taken [] samples d)
    ∙ ap (λ n. drop n samples) none

module _ (pool : List ℕ) (metric : Metric) where
  -- samples of one pool and metric
  in_series : (one other : SampleRow) → is_sample_of pool metric one ≡ true → is_sample_of pool metric other ≡ true
      → are_labels_out_of_order one other ≡ nat_le other.label one.label
  in_series one other h k =
      let pools : same one.pool other.pool ≡ true =
      same_equiv.congr one.pool pool other.pool (and_first (same one.pool pool) (same_metric one.metric metric) h)
      ∙ same_equiv.symm pool other.pool
      ∙ and_first (same other.pool pool) (same_metric other.metric metric) k
      in
      let metrics : same_metric one.metric other.metric ≡ true =
      metric_equiv.congr one.metric metric other.metric (and_second (same one.pool pool) (same_metric one.metric metric) h)
      ∙ metric_equiv.symm metric other.metric
      ∙ and_second (same other.pool pool) (same_metric other.metric metric) k
      in
      rw (pools, metrics) refl

  rises_after : (one : SampleRow) (rows : List SampleRow) → is_sample_of pool metric one ≡ true → list_any (are_labels_out_of_order one) rows ≡ false
      → list_any (falls (bare_sample one)) (bare pool metric rows) ≡ false
  rises_after one [] h none = refl
  rises_after one (other ∷ rows) h none =
      by_test (is_sample_of pool metric other) refl
      (rises_after one rows h (or_false_second (are_labels_out_of_order one other) (list_any (are_labels_out_of_order one) rows) none))
    where
      by_test : (b : Bool) → is_sample_of pool metric other ≡ b → list_any (falls (bare_sample one)) (bare pool metric rows) ≡ false
          → list_any (falls (bare_sample one)) (map bare_sample (cond b (other ∷ filter (is_sample_of pool metric) rows) (filter (is_sample_of pool metric) rows))) ≡ false
      by_test true k rest =
          or_false (sym (in_series one other h k) ∙ or_false_first (are_labels_out_of_order one other) (list_any (are_labels_out_of_order one) rows) none) rest
      by_test false k rest = rest

  labels_rise : (rows : List SampleRow) → AreDistinct are_labels_out_of_order rows → AreDistinct falls (bare pool metric rows)
  labels_rise [] d = tt
  labels_rise (one ∷ rows) d = by_test (is_sample_of pool metric one) refl (labels_rise rows d.1)
    where
      by_test : (b : Bool) → is_sample_of pool metric one ≡ b → AreDistinct falls (bare pool metric rows)
          → AreDistinct falls (map bare_sample (cond b (one ∷ filter (is_sample_of pool metric) rows) (filter (is_sample_of pool metric) rows)))
      by_test true h rest = (rises_after one rows h d.0, rest)
      by_test false h rest = rest

  -- a sample of a series names it
  same_test : (one : SampleRow) → is_sample_of pool metric one ≡ true → (other : SampleRow) → is_sample_of one.pool one.metric other ≡ is_sample_of pool metric other
  same_test one h other =
      let pools : same other.pool one.pool ≡ same other.pool pool =
      same_equiv.symm other.pool one.pool
      ∙ same_equiv.congr one.pool pool other.pool (and_first (same one.pool pool) (same_metric one.metric metric) h)
      ∙ same_equiv.symm pool other.pool
      in
      let metrics : same_metric other.metric one.metric ≡ same_metric other.metric metric =
      metric_equiv.symm other.metric one.metric
      ∙ metric_equiv.congr one.metric metric other.metric (and_second (same one.pool pool) (same_metric one.metric metric) h)
      ∙ metric_equiv.symm metric other.metric
      in
      rw (pools, metrics) refl

  -- no more samples of a series are there than the limit
  few_of_series : (s : State) → Each (has_kept s) s.samples → length (samples_of s pool metric) ≤ 2880
  few_of_series s kept = by_one (list_any (is_sample_of pool metric) s.samples) refl
    where
      by_one : (b : Bool) → list_any (is_sample_of pool metric) s.samples ≡ b → length (samples_of s pool metric) ≤ 2880
      by_one true e =
          let some : (one : SampleRow) × (find (is_sample_of pool metric) s.samples ≡ Some one) = find_any (is_sample_of pool metric) s.samples e in
          let here : is_sample_of pool metric some.0 ≡ true = find_test (is_sample_of pool metric) some.0 s.samples some.1 in
          let all : samples_of s some.0.pool some.0.metric ≡ samples_of s pool metric =
          filter_agree (is_sample_of some.0.pool some.0.metric) (is_sample_of pool metric) (same_test some.0 here) s.samples
          in
          ordered (length (samples_of s pool metric)) 2880
          (subst (λ samples. nat_le (length samples) sample_limit ≡ true) all
          (each_found (has_kept s) (is_sample_of pool metric) some.0 s.samples some.1 kept))
      by_one false e =
          let none : length (samples_of s pool metric) ≡ 0 =
          length-filter (is_sample_of pool metric) s.samples
          ∙ count_none (is_sample_of pool metric) s.samples (any_none (is_sample_of pool metric) s.samples e)
          in
          omega (arith, none)

  -- what is gathered of the metric is its history
  gathered_part : (s : State) → PoolsAreFitting s → part_of (with_rows pool s.samples blank_metrics) metric ≡ sampled_part s pool metric
  gathered_part s h =
      let few : length (history_of s pool metric) ≤ 2880 = rw length-map (few_of_series s h.kept) in
      rows_part pool metric s.samples blank_metrics
      ∙ blank_part metric (history_of s pool metric)
      ∙ ap (λ samples. record { current = None; history = samples }) (all_kept (history_of s pool metric) (labels_rise s.samples h.order) few)
    where
      blank_part : (one : Metric) (samples : List Sample) → with_all pool metric (part_of blank_metrics one) samples ≡ record { current = None; history = pushed_all [] samples }
      blank_part CpuPercent samples = refl
      blank_part ActiveTasks samples = refl
      blank_part RunningTasks samples = refl
      blank_part PendingTasks samples = refl
      blank_part SucceededTasks samples = refl
      blank_part FailedTasks samples = refl
      blank_part TaskSlotsPerNode samples = refl
      blank_part CurrentDedicatedNodes samples = refl
      blank_part CurrentLowPriorityNodes samples = refl
      blank_part PreemptedNodeCount samples = refl

pub gathered : (s : State) (pool : List ℕ) → PoolsAreFitting s → with_rows pool s.samples blank_metrics ≡ sampled s pool
gathered s pool h =
    let part : (metric : Metric) → part_of (with_rows pool s.samples blank_metrics) metric ≡ sampled_part s pool metric = λ metric. gathered_part pool metric s h in
    rw (
      ← part CpuPercent,
      ← part ActiveTasks,
      ← part RunningTasks,
      ← part PendingTasks,
      ← part SucceededTasks,
      ← part FailedTasks,
      ← part TaskSlotsPerNode,
      ← part CurrentDedicatedNodes,
      ← part CurrentLowPriorityNodes,
      ← part PreemptedNodeCount,
    ) refl

-- the newest sample

-- the first of a list in reverse order that is followed by another is its last one
first_of_reversed : (samples after : List Sample) → slice_get (reverse_aux samples after) 0 ≡ last_or (slice_get after 0) samples
first_of_reversed [] after = refl
first_of_reversed (sample ∷ samples) after = first_of_reversed samples (sample ∷ after)

-- the value of the newest sample is the only one of the newest values, at most one
pub newest_first : (samples : List Sample) → slice_get (last_values samples 1) 0 ≡ newest_value samples
newest_first samples = first_taken (reverse samples) ∙ ap (option_map (λ (sample : Sample). sample.value)) (first_of_reversed samples [])
  where
    first_taken : (newest : List Sample) → slice_get (take 1 (values newest)) 0 ≡ option_map (λ (sample : Sample). sample.value) (slice_get newest 0)
    first_taken [] = refl
    first_taken (sample ∷ newest) = refl

-- the samples of each metric and the values now are the metrics of the pool
pub all_set : (s : State) (pool : PoolRow)
    → with_values (metrics_of s pool)
    (with_part (sampled s pool.id) CpuPercent
    (with_current (part_of (sampled s pool.id) CpuPercent) (newest_value (part_of (sampled s pool.id) CpuPercent).history)))
    ≡ pool_metrics s pool
all_set s pool = refl
