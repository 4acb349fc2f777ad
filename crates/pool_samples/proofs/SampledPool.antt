-- The changes by which a pool is sampled lead to the tables with its samples.
use Rattle.std.proofs.Common.{◌≡◌, ℕ, Bool, true, false, not, ◌&&◌, ◌||◌, nat_lt, nat_le, List, [], ◌∷◌, Option, Some, None, refl, sym, ◌∙◌, ap, arith}
use Rattle.std.specs.List.{list_any}
use Rattle.std.specs.Option.{option_map_or}
use Rattle.std.proofs.lemmas.Bool.Decides.{nat_tests}
use Rattle.bt_base.specs.Ids.{same}
use Rattle.bt_base.proofs.SameIds.{same_equiv}
use Rattle.bt_rows.specs.Changes.{apply_changes}
use Rattle.bt_rows.specs.Lists.{AreDistinct}
use Rattle.bt_rows.specs.declared.tables.Change.{Change}
use Rattle.bt_rows.specs.Metrics.{metric_equiv, same_metric}
use Rattle.batch_model.specs.Finding.{Each}
use Rattle.batch_model.specs.Metrics.{add_samples, metric_value, sampled_metrics}
use Rattle.batch_model.specs.Samples.{add_sample, is_sample_of, label_of, last_label, new_sample, newest_label, samples_of}
use Rattle.batch_model.specs.Scaling.{lacks_sample}
use Rattle.batch_model.specs.WellFormed.{is_covered}
use Rattle.batch_model.specs.Variants.{State, PoolRow, Metric, CpuPercent, ActiveTasks, SampleRow}
use Rattle.model_lists.proofs.Tests.{and_first, and_second, not_true, or_false_first, or_false_second}
use Rattle.model_lists.proofs.RowLists.{each_head, each_tail, each_weaker, filter_agree}
use Rattle.model_tables.proofs.SamplesAdded.{each_added, is_older, other_series}
use Rattle.row_changes.proofs.ListPuts.{apply_append}
use Rattle.pool_samples.specs.declared.kept.Kept.{Kept}
use Rattle.pool_samples.specs.Changes.{added, all_added, metric_added, sample_at}
use Rattle.pool_samples.specs.Conditions.{CanSample}
use Rattle.pool_samples.specs.Counts.{metrics_of}
use Rattle.pool_samples.specs.Kept.{AreKept, kept_at, none_kept, noted_all}
use Rattle.pool_samples.proofs.MetricValues.{value_of_metrics}
use Rattle.pool_samples.proofs.SamplePuts.{sample_added}

and_no : (a b : Bool) → b ≡ false → (a && b) ≡ false
and_no true b h = h
and_no false b h = refl

module _ (s : State) (pool : PoolRow) where
  -- the new sample of a metric
  abbrev new : Metric → SampleRow
  new metric = new_sample s pool.id metric (metric_value s pool metric)

  -- samples of the metric are older
  abbrev AreOlder : State → Metric → Type 0
  AreOlder t metric = Each (is_older (new metric) t) t.samples

  -- the samples of these metrics are those of the tables before, and older than the new ones
  abbrev AreLeft : State → List Metric → Type 0
  AreLeft t [] = Unit {0}
  AreLeft t (metric ∷ metrics) = (samples_of t pool.id metric ≡ samples_of s pool.id metric) × AreOlder t metric × AreLeft t metrics

  -- and stay so when a sample of another metric is added
  left_after : (metric : Metric) (t : State) (metrics : List Metric) → list_any (same_metric metric) metrics ≡ false → AreLeft t metrics
      → AreLeft (add_sample (new metric) t) metrics
  left_after metric t [] apart h = tt
  left_after metric t (other ∷ metrics) apart h =
      let another : is_sample_of pool.id other (new metric) ≡ false =
      and_no (same pool.id pool.id) (same_metric metric other) (or_false_first (same_metric metric other) (list_any (same_metric metric) metrics) apart)
      in (
        other_series (new metric) t pool.id other another ∙ h.0,
        each_added (new metric) t (is_older (new other) t) h.1 (rw another refl),
        left_after metric t metrics (or_false_second (same_metric metric other) (list_any (same_metric metric) metrics) apart) h.2,
      )

  module _ (kept : List Kept) (keeps : AreKept s pool.id kept) where
    -- the changes that add a sample of a metric
    abbrev added_of : Metric → List Change
    added_of = metric_added kept s.moment pool.id (metrics_of s pool)

    one_added : (metric : Metric) (t : State) → samples_of t pool.id metric ≡ samples_of s pool.id metric → AreOlder t metric
        → apply_changes (added_of metric) t ≡ add_sample (new metric) t
    one_added metric t e older =
        ap (λ value. apply_changes (added (kept_at kept metric) (sample_at s.moment pool.id metric value)) t) (value_of_metrics s pool metric)
        ∙ sample_added (new metric) (kept_at kept metric) t (keeps metric ∙ ap (λ samples. noted_all samples none_kept) (sym e)) older

    all_made : (metrics : List Metric) (t : State) → AreDistinct same_metric metrics → AreLeft t metrics
        → apply_changes (all_added kept s.moment pool.id (metrics_of s pool) metrics) t ≡ add_samples s pool metrics t
    all_made [] t d h = refl
    all_made (metric ∷ metrics) t d h =
        apply_append (added_of metric) (all_added kept s.moment pool.id (metrics_of s pool) metrics) t
        ∙ ap (apply_changes (all_added kept s.moment pool.id (metrics_of s pool) metrics)) (one_added metric t h.0 h.1)
        ∙ all_made metrics (add_sample (new metric) t) d.1 (left_after metric t metrics d.0 h.2)

  -- if the active tasks have no sample of now, other metrics than the processors' have none either
  module _ (able : CanSample s) (lacks : lacks_sample s pool ≡ true) where
    older : (metric : Metric) → same_metric metric CpuPercent ≡ false → AreOlder s metric
    older metric other = each_weaker (is_covered s) (is_older (new metric) s) covered s.samples able.pools.covered
      where
        below : (newest : Option ℕ) (label : ℕ) → not (option_map_or (nat_le (label_of s.moment)) newest false) ≡ true
            → option_map_or (nat_le label) newest false ≡ true → nat_lt label (label_of s.moment) ≡ true
        below None label k m = cc
        below (Some newest) label k m = above (label_of s.moment) newest label k m
          where
            above : (now newest label : ℕ) → not (nat_le now newest) ≡ true → nat_le label newest ≡ true → nat_lt label now ≡ true
            above now newest label n o = grind (arith, nat_tests)

        covered : (one : SampleRow) → is_covered s one ≡ true → is_older (new metric) s one ≡ true
        covered one k = by_series (is_sample_of pool.id metric one) refl
          where
            rest : (a b : Bool) → a ≡ false → (a || b) ≡ true → b ≡ true
            rest true b e h = cc
            rest false b e h = h

            alike : same one.pool pool.id ≡ true → (sample : SampleRow) → is_sample_of one.pool ActiveTasks sample ≡ is_sample_of pool.id ActiveTasks sample
            alike here sample =
                ap (λ b. b && same_metric sample.metric ActiveTasks)
                (same_equiv.symm sample.pool one.pool ∙ same_equiv.congr one.pool pool.id sample.pool here ∙ same_equiv.symm pool.id sample.pool)

            by_series : (b : Bool) → is_sample_of pool.id metric one ≡ b → (not b || nat_lt one.label (label_of s.moment)) ≡ true
            by_series false e = refl
            by_series true e =
                let here : same one.pool pool.id ≡ true = and_first (same one.pool pool.id) (same_metric one.metric metric) e in
                let of_metric : same_metric one.metric metric ≡ true = and_second (same one.pool pool.id) (same_metric one.metric metric) e in
                let cpu : same_metric one.metric CpuPercent ≡ false = metric_equiv.congr one.metric metric CpuPercent of_metric ∙ other in
                let same_newest : newest_label s one.pool ActiveTasks ≡ newest_label s pool.id ActiveTasks =
                ap last_label (filter_agree (is_sample_of one.pool ActiveTasks) (is_sample_of pool.id ActiveTasks) (alike here) s.samples)
                in
                below (newest_label s pool.id ActiveTasks) one.label lacks
                (ap (λ newest. option_map_or (nat_le one.label) newest false) (sym same_newest)
                ∙ rest (same_metric one.metric CpuPercent) (option_map_or (nat_le one.label) (newest_label s one.pool ActiveTasks) false) cpu k)

    left_first : (metrics : List Metric) → Each (λ metric. not (same_metric metric CpuPercent)) metrics → AreLeft s metrics
    left_first [] h = tt
    left_first (metric ∷ metrics) h = (
      refl,
      older metric (not_true (same_metric metric CpuPercent) (each_head (λ one. not (same_metric one CpuPercent)) metric metrics h)),
      left_first metrics (each_tail (λ one. not (same_metric one CpuPercent)) metric metrics h),
    )

    pub pool_sampled : (kept : List Kept) → AreKept s pool.id kept
        → apply_changes (all_added kept s.moment pool.id (metrics_of s pool) sampled_metrics) s ≡ add_samples s pool sampled_metrics s
    pool_sampled kept keeps =
        all_made kept keeps sampled_metrics s (refl, (refl, (refl, (refl, (refl, (refl, (refl, (refl, (refl, tt))))))))) (left_first sampled_metrics refl)
