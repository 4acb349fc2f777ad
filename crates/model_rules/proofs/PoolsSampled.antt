-- A pool that scales automatically is sampled: the tables stay sound, and the rank falls.
use Rattle.std.proofs.Common.{◌≡◌, ℕ, ◌≤◌, ◌<◌, Bool, true, false, not, ◌&&◌, ◌||◌, nat_lt, nat_le, List, [], ◌∷◌, Option, Some, None, find, cond, count_by, refl, sym, ◌∙◌, ap, subst, arith}
use Rattle.std.specs.List.{list_any, find}
use Rattle.std.specs.Option.{option_map_or}
use Rattle.std.proofs.lemmas.Bool.Decides.{nat_tests}
use Rattle.bt_base.specs.Ids.{same}
use Rattle.bt_base.proofs.SameIds.{same_equiv}
use Rattle.bt_base.proofs.Turns.{lex_lt, lex_first}
use Rattle.bt_rows.specs.Lists.{AreDistinct}
use Rattle.bt_rows.specs.Metrics.{same_metric, metric_equiv}
use Rattle.bt_rows.specs.Ranges.{passes_if_some}
use Rattle.bt_base.specs.declared.pool_metric.Metric.TheVariants.{RunningTasks, PendingTasks, SucceededTasks, FailedTasks, TaskSlotsPerNode}
use Rattle.bt_base.specs.declared.pool_metric.Metric.TheVariants.{CurrentDedicatedNodes, CurrentLowPriorityNodes, PreemptedNodeCount}
use Rattle.batch_model.specs.Finding.{Each}
use Rattle.batch_model.specs.Rows.{is_pool}
use Rattle.batch_model.specs.Samples.{label_of, is_sample_of, samples_of, last_label, newest_label, new_sample, add_sample}
use Rattle.batch_model.specs.Metrics.{metric_value, sampled_metrics, add_samples}
use Rattle.batch_model.specs.Scaling.{is_scale, is_due, lacks_sample, is_to_sample, pool_sampled, sample_first, is_to_scale}
use Rattle.batch_model.specs.Measure.{rank}
use Rattle.batch_model.specs.Sound.{IsSound}
use Rattle.batch_model.specs.Steps.{DueStep}
use Rattle.batch_model.specs.WellFormed.{has_pool_row, scales, is_covered}
use Rattle.batch_model.specs.Variants.{State, PoolRow, Metric, CpuPercent, ActiveTasks, SampleRow, ScaleRow}
use Rattle.model_lists.proofs.Tests.{and_true, and_first, and_second, not_true, or_first, or_second}
use Rattle.model_lists.proofs.RowLists.{each_any, each_head, each_tail, each_weaker, each_of_two, any_found, any_none, filter_agree, find_test}
use Rattle.model_lists.proofs.KeptRows.{kept_pass, each_kept}
use Rattle.model_lists.proofs.NextNumbers.{is_not_after_itself}
use Rattle.model_lists.proofs.RowSums.{sum_less_where}
use Rattle.model_tables.proofs.SamplesAdded.{label_past, label_whole, may_be_added, newest_added, sound_sample_added}
use Rattle.model_rules.proofs.NodeCounts.{one_if}
use Rattle.model_rules.proofs.Rules.{IsDueKept, from_map}

-- a test beside one that fails
and_off : (test : Bool) → (test && false) ≡ false
and_off true = refl
and_off false = refl

-- labels below a number, of which the last one is
last_below : (label : ℕ) (samples : List SampleRow) → Each (λ one. nat_lt one.label label) samples
    → passes_if_some (λ newest. nat_lt newest label) (last_label samples) ≡ true
last_below label [] h = refl
last_below label (one ∷ []) h = each_head (λ sample. nat_lt sample.label label) one [] h
last_below label (one ∷ other ∷ samples) h = last_below label (other ∷ samples) (each_tail (λ sample. nat_lt sample.label label) one (other ∷ samples) h)

-- what the active tasks cover

module _ (s : State) (id : List ℕ) (label : ℕ)
    (lacks : not (option_map_or (nat_le label) (newest_label s id ActiveTasks) false) ≡ true) where
  -- what is covered has an earlier label
  covered_before : (newest : Option ℕ) (one : ℕ) → not (option_map_or (nat_le label) newest false) ≡ true → option_map_or (nat_le one) newest false ≡ true
      → nat_lt one label ≡ true
  covered_before None one h k = cc
  covered_before (Some newest) one h k = between newest one (not_true (nat_le label newest) h) k
    where
      between : (newest one : ℕ) → nat_le label newest ≡ false → nat_le one newest ≡ true → nat_lt one label ≡ true
      between newest one e f = grind (arith, nat_tests)

  -- the newest sample of another metric than the processors' is older
  older : (metric : Metric) → same_metric metric CpuPercent ≡ false → Each (is_covered s) s.samples
      → passes_if_some (λ newest. nat_lt newest label) (newest_label s id metric) ≡ true
  older metric other covered =
      last_below label (samples_of s id metric)
      (each_of_two (is_sample_of id metric) (is_covered s) (λ one. nat_lt one.label label) one_older (samples_of s id metric)
      (kept_pass (is_sample_of id metric) s.samples) (each_kept (is_sample_of id metric) (is_covered s) s.samples covered))
    where
      only_second : (a b : Bool) → a ≡ false → (a || b) ≡ true → b ≡ true
      only_second true b e h = cc
      only_second false b e h = h

      one_older : (one : SampleRow) → is_sample_of id metric one ≡ true → is_covered s one ≡ true → nat_lt one.label label ≡ true
      one_older one here covers =
          let at : same one.pool id ≡ true = and_first (same one.pool id) (same_metric one.metric metric) here in
          let apart : same_metric one.metric CpuPercent ≡ false =
          metric_equiv.congr one.metric metric CpuPercent (and_second (same one.pool id) (same_metric one.metric metric) here) ∙ other
          in
          let series : samples_of s one.pool ActiveTasks ≡ samples_of s id ActiveTasks =
          filter_agree (is_sample_of one.pool ActiveTasks) (is_sample_of id ActiveTasks)
          (λ another. ap (λ b. b && same_metric another.metric ActiveTasks)
          (same_equiv.symm another.pool one.pool ∙ (same_equiv.congr one.pool id another.pool at ∙ same_equiv.symm id another.pool))) s.samples
          in
          covered_before (newest_label s id ActiveTasks) one.label lacks
          (subst (λ samples. option_map_or (nat_le one.label) (last_label samples) false ≡ true) series
          (only_second (same_metric one.metric CpuPercent) (option_map_or (nat_le one.label) (newest_label s one.pool ActiveTasks) false) apart covers))

-- the samples of one moment

-- the metrics that are sampled after that of the active tasks
abbrev later_metrics : List Metric
later_metrics =
    RunningTasks ∷ PendingTasks ∷ SucceededTasks ∷ FailedTasks ∷ TaskSlotsPerNode ∷ CurrentDedicatedNodes ∷ CurrentLowPriorityNodes ∷ PreemptedNodeCount ∷ []

module _ (s : State) (pool : PoolRow) where
  -- the sample of a metric
  abbrev sample_of : Metric → SampleRow
  sample_of metric = new_sample s pool.id metric (metric_value s pool metric)

  -- a part of the tables that samples do not change
  same_part : {A : Type 0} (part : State → A) → ((sample : SampleRow) (tables : State) → part (add_sample sample tables) ≡ part tables) → (metrics : List Metric)
      → (after : State) → part (add_samples s pool metrics after) ≡ part after
  same_part part keeps [] after = refl
  same_part part keeps (metric ∷ metrics) after = same_part part keeps metrics (add_sample (sample_of metric) after) ∙ keeps (sample_of metric) after

  -- the newest label of another metric stays
  newest_of_other : (after : State) (metric other : Metric) → same_metric metric other ≡ false → (id : List ℕ)
      → newest_label (add_sample (sample_of metric) after) id other ≡ newest_label after id other
  newest_of_other after metric other apart id =
      newest_added (sample_of metric) after id other ∙ by_test (is_sample_of id other (sample_of metric)) (rw apart (and_off (same pool.id id)))
    where
      by_test : (b : Bool) → b ≡ false → cond b (Some (label_of s.moment)) (newest_label after id other) ≡ newest_label after id other
      by_test true e = cc
      by_test false e = refl

  -- and so does that of the active tasks, where others are sampled
  newest_stays : (metrics : List Metric) (after : State) → Each (λ metric. not (same_metric metric ActiveTasks)) metrics → (id : List ℕ)
      → newest_label (add_samples s pool metrics after) id ActiveTasks ≡ newest_label after id ActiveTasks
  newest_stays [] after h id = refl
  newest_stays (metric ∷ metrics) after h id =
      newest_stays metrics (add_sample (sample_of metric) after) (each_tail (λ other. not (same_metric other ActiveTasks)) metric metrics h) id
      ∙ newest_of_other after metric ActiveTasks
      (not_true (same_metric metric ActiveTasks) (each_head (λ other. not (same_metric other ActiveTasks)) metric metrics h)) id

  -- the tables with the sample of the active tasks
  abbrev begun : State
  begun = add_sample (sample_of ActiveTasks) s

  -- its label is the newest
  newest_begun : (id : List ℕ) → newest_label begun id ActiveTasks ≡ cond (same pool.id id && true) (Some (label_of s.moment)) (newest_label s id ActiveTasks)
  newest_begun id = newest_added (sample_of ActiveTasks) s id ActiveTasks

  -- the newest label of the active tasks after all samples
  newest_sampled : (id : List ℕ)
      → newest_label (add_samples s pool sampled_metrics s) id ActiveTasks
      ≡ cond (same pool.id id && true) (Some (label_of s.moment)) (newest_label s id ActiveTasks)
  newest_sampled id = newest_stays later_metrics begun refl id ∙ newest_begun id

  module _ (seats : ℕ) (there : has_pool_row s pool.id ≡ true) where
    -- the metric has no sample of now yet
    abbrev is_awaited : State → Metric → Bool
    is_awaited after metric = passes_if_some (λ newest. nat_lt newest (label_of s.moment)) (newest_label after pool.id metric)

    -- one sample
    one_sound : (metric : Metric) (after : State) → after.pools ≡ s.pools → after.moment ≡ s.moment → not (same_metric metric CpuPercent) ≡ true
        → is_awaited after metric ≡ true → may_be_added after (sample_of metric) ≡ true → IsSound seats after
        → IsSound seats (add_sample (sample_of metric) after)
    one_sound metric after pools moment other awaited may =
        sound_sample_added seats (sample_of metric) after (ap (λ rows. list_any (is_pool pool.id) rows) pools ∙ there)
        (and_true (or_first _ other) (ap (λ now. nat_le (label_of s.moment) now) moment ∙ label_past s.moment)) (label_whole s.moment) awaited may

    -- a metric that is sampled after the active tasks
    abbrev is_later : Metric → Bool
    is_later metric = not (same_metric metric CpuPercent) && not (same_metric metric ActiveTasks)

    -- and has no sample of now yet
    abbrev is_to_come : State → Metric → Bool
    is_to_come after metric = is_later metric && is_awaited after metric

    -- with a sample of one metric others still have none
    still_to_come : (metric : Metric) (after : State) (metrics : List Metric) → list_any (same_metric metric) metrics ≡ false
        → Each (is_to_come after) metrics → Each (is_to_come (add_sample (sample_of metric) after)) metrics
    still_to_come metric after metrics apart h =
        each_of_two (λ other. not (same_metric metric other)) (is_to_come after) (is_to_come (add_sample (sample_of metric) after))
        (λ other e k. and_true (and_first (is_later other) (is_awaited after other) k)
        (ap (λ newest. passes_if_some (λ one. nat_lt one (label_of s.moment)) newest)
        (newest_of_other after metric other (not_true (same_metric metric other) e) pool.id)
        ∙ and_second (is_later other) (is_awaited after other) k))
        metrics (any_none (same_metric metric) metrics apart) h

    -- samples of metrics after that of the active tasks
    later_sound : (metrics : List Metric) (after : State) → after.pools ≡ s.pools → after.moment ≡ s.moment
        → newest_label after pool.id ActiveTasks ≡ Some (label_of s.moment) → AreDistinct same_metric metrics → Each (is_to_come after) metrics
        → IsSound seats after → IsSound seats (add_samples s pool metrics after)
    later_sound [] after pools moment newest distinct awaited h = h
    later_sound (metric ∷ metrics) after pools moment newest distinct awaited h =
        let first : is_to_come after metric ≡ true = each_head (is_to_come after) metric metrics awaited in
        let later : is_later metric ≡ true = and_first (is_later metric) (is_awaited after metric) first in
        let other : same_metric metric ActiveTasks ≡ false =
        not_true (same_metric metric ActiveTasks) (and_second (not (same_metric metric CpuPercent)) (not (same_metric metric ActiveTasks)) later)
        in
        later_sound metrics (add_sample (sample_of metric) after) pools moment (newest_of_other after metric ActiveTasks other pool.id ∙ newest) distinct.1
        (still_to_come metric after metrics distinct.0 (each_tail (is_to_come after) metric metrics awaited))
        (one_sound metric after pools moment (and_first (not (same_metric metric CpuPercent)) (not (same_metric metric ActiveTasks)) later)
        (and_second (is_later metric) (is_awaited after metric) first)
        (or_second _ (ap (λ o. option_map_or (nat_le (label_of s.moment)) o false) newest ∙ is_not_after_itself (label_of s.moment))) h)

    -- the samples of a pool that lacks them
    sound_sampled : lacks_sample s pool ≡ true → IsSound seats s → IsSound seats (add_samples s pool sampled_metrics s)
    sound_sampled lacks h =
        later_sound later_metrics begun refl refl
        (newest_begun pool.id ∙ ap (λ b. cond (b && true) (Some (label_of s.moment)) (newest_label s pool.id ActiveTasks)) (same_equiv.refl pool.id))
        (refl, (refl, (refl, (refl, (refl, (refl, (refl, (refl, tt)))))))) (still_to_come ActiveTasks s later_metrics refl awaited)
        (one_sound ActiveTasks s refl refl refl (older s pool.id (label_of s.moment) lacks ActiveTasks refl h.limited.pools.covered) refl h)
      where
        awaited : Each (is_to_come s) later_metrics
        awaited =
            each_weaker is_later (is_to_come s)
            (λ metric e. and_true e
            (older s pool.id (label_of s.moment) lacks metric
            (not_true (same_metric metric CpuPercent) (and_first (not (same_metric metric CpuPercent)) (not (same_metric metric ActiveTasks)) e))
            h.limited.pools.covered))
            later_metrics refl

-- the rank

-- whether a pool is to be sampled, by what that rests on
abbrev samples_by : Bool → List ℕ → List ScaleRow → ℕ → Option ℕ → Bool
samples_by deleting id rows now newest =
    not deleting && (list_any (λ scale. same scale.pool id) rows && not (option_map_or (nat_le (label_of now)) newest false))

-- how many pools are to be scaled, by what that rests on
abbrev scaled_by_now : List PoolRow → List ScaleRow → ℕ → ℕ
scaled_by_now pools rows now = count_by (λ (other : PoolRow). not other.deleting && option_map_or (is_due now) (find (is_scale other.id) rows) false) pools

module _ (s after : State) (pool : PoolRow) (pools : after.pools ≡ s.pools) (rows : after.scales ≡ s.scales) (moment : after.moment ≡ s.moment)
    (newest : (id : List ℕ) → newest_label after id ActiveTasks ≡ cond (same pool.id id && true) (Some (label_of s.moment)) (newest_label s id ActiveTasks)) where
  -- the pool is to be sampled no more, and another as before
  sampled_after : (other : PoolRow) → is_to_sample after other ≡ cond (same pool.id other.id && true) false (is_to_sample s other)
  sampled_after other =
      ap (λ scales_after. samples_by other.deleting other.id scales_after after.moment (newest_label after other.id ActiveTasks)) rows
      ∙ (ap (λ now. samples_by other.deleting other.id s.scales now (newest_label after other.id ActiveTasks)) moment
      ∙ (ap (λ label. samples_by other.deleting other.id s.scales s.moment label) (newest other.id) ∙ by_test (same pool.id other.id && true)))
    where
      off : (a b c : Bool) → c ≡ true → (a && (b && not c)) ≡ false
      off true true true e = refl
      off true false true e = refl
      off false b true e = refl
      off a b false e = cc

      by_test : (b : Bool)
          → samples_by other.deleting other.id s.scales s.moment (cond b (Some (label_of s.moment)) (newest_label s other.id ActiveTasks))
          ≡ cond b false (is_to_sample s other)
      by_test true =
          off (not other.deleting) (list_any (λ (scale : ScaleRow). same scale.pool other.id) s.scales)
          (nat_le (label_of s.moment) (label_of s.moment)) (is_not_after_itself (label_of s.moment))
      by_test false = refl

  -- a pool less is to be sampled
  fewer_to_sample : find (is_to_sample s) s.pools ≡ Some pool → count_by (is_to_sample after) after.pools < count_by (is_to_sample s) s.pools
  fewer_to_sample found =
      subst (λ rows_after. count_by (is_to_sample after) rows_after < count_by (is_to_sample s) s.pools) (sym pools)
      (sum_less_where (λ other. true) (λ other. one_if (is_to_sample after other)) (λ other. one_if (is_to_sample s other)) (λ other e. no_more other) (is_to_sample s) pool
      s.pools (each_any (λ other. true) (λ other. refl) s.pools) found less)
    where
      at_most : (b c : Bool) → one_if (cond b false c) ≤ one_if c
      at_most true c = omega arith
      at_most false c = omega arith

      no_more : (other : PoolRow) → one_if (is_to_sample after other) ≤ one_if (is_to_sample s other)
      no_more other = rw (sampled_after other) (at_most (same pool.id other.id && true) (is_to_sample s other))

      falls : (b c : Bool) → b ≡ true → c ≡ true → one_if (cond (b && true) false c) < one_if c
      falls true true e k = omega arith
      falls true false e k = cc
      falls false c e k = cc

      less : one_if (is_to_sample after pool) < one_if (is_to_sample s pool)
      less = rw (sampled_after pool) (falls (same pool.id pool.id) (is_to_sample s pool) (same_equiv.refl pool.id) (find_test (is_to_sample s) pool s.pools found))

  -- as many are to be scaled
  same_to_scale : count_by (is_to_scale after) after.pools ≡ count_by (is_to_scale s) s.pools
  same_to_scale =
      ap (λ (pools_after : List PoolRow). scaled_by_now pools_after after.scales after.moment) pools
      ∙ (ap (λ (rows_after : List ScaleRow). scaled_by_now s.pools rows_after after.moment) rows ∙ ap (λ now. scaled_by_now s.pools s.scales now) moment)

  -- the rank falls
  sampled_falls : find (is_to_sample s) s.pools ≡ Some pool → lex_lt (rank after) (rank s) ≡ true
  sampled_falls found =
      let fewer = fewer_to_sample found in
      let alike = same_to_scale in
      lex_first _ _ _ _ (omega (arith, fewer, alike)) refl

-- the rule

-- U1
pub sample_first_kept : (seats : ℕ) (s : State) → IsSound seats s → (step : DueStep) → sample_first s ≡ Some step → IsDueKept seats s step
sample_first_kept seats s h step e =
    let found = from_map (pool_sampled s) (find (is_to_sample s) s.pools) step e in
    subst (IsDueKept seats s) found.1 (sampled_kept found.0 found.2)
  where
    sampled_kept : (pool : PoolRow) → find (is_to_sample s) s.pools ≡ Some pool → IsDueKept seats s (pool_sampled s pool)
    sampled_kept pool found =
        let passes : is_to_sample s pool ≡ true = find_test (is_to_sample s) pool s.pools found in
        let there : has_pool_row s pool.id ≡ true = any_found (is_pool pool.id) (is_to_sample s) pool s.pools found (same_equiv.refl pool.id) in
        record {
          sound = sound_sampled s pool seats there (and_second (scales s pool.id) (lacks_sample s pool) (and_second (not pool.deleting) _ passes)) h;
          falls =
              sampled_falls s (add_samples s pool sampled_metrics s) pool
              (same_part s pool (λ (tables : State). tables.pools) (λ sample tables. refl) sampled_metrics s)
              (same_part s pool (λ (tables : State). tables.scales) (λ sample tables. refl) sampled_metrics s)
              (same_part s pool (λ (tables : State). tables.moment) (λ sample tables. refl) sampled_metrics s) (newest_sampled s pool) found;
          places = tt;
          ends = tt;
          releases = tt;
        }
