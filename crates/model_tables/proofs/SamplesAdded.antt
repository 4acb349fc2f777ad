-- Tables stay sound when a sample of a pool is added that is newer than the others of its metric.
use Rattle.std.proofs.Common.{◌≡◌, ℕ, ◌+◌, ◌/◌, ◌%◌, div-mul-le_self, ◌≤◌, Bool, true, false, not, ◌&&◌, ◌||◌, nat_eq, nat_lt, nat_le, List, [], ◌∷◌, ◌++◌, length, filter, find, cond, Option, Some, None, refl, ◌∙◌, ap, append-nil, subst, arith}
use Rattle.std.specs.List.{list_any}
use Rattle.std.specs.Option.{option_map_or}
use Rattle.std.specs.Cmp.{IsEquivalence, on_equiv}
use Rattle.std.proofs.Math.Nat.{mul-mod_left}
use Rattle.std.proofs.lemmas.Bool.Decides.{nat_tests}
use Rattle.std.proofs.lemmas.List.{length-append}
use Rattle.std.proofs.lemmas.List.Elements.{filter-append}
use Rattle.bt_base.specs.Ids.{same}
use Rattle.bt_base.proofs.SameIds.{same_equiv}
use Rattle.bt_base.proofs.Pairs.{both_equiv}
use Rattle.bt_rows.specs.Keys.{same_sample}
use Rattle.bt_rows.specs.Lists.{AreDistinct}
use Rattle.bt_rows.specs.Metrics.{same_metric, metric_equiv}
use Rattle.bt_rows.specs.Ranges.{passes_if_some}
use Rattle.batch_model.specs.Finding.{Each}
use Rattle.batch_model.specs.Samples.{label_of, sample_limit, is_sample_of, samples_of, last_label, newest_label, without_first, is_full, with_room, add_sample}
use Rattle.batch_model.specs.Sound.{IsConsistent, IsWithinLimits, IsSound}
use Rattle.batch_model.specs.WellFormed.{has_pool_row, is_sample_valid, is_covered, has_label, has_kept, are_labels_out_of_order}
use Rattle.batch_model.specs.Variants.{State, Metric, CpuPercent, ActiveTasks, SampleRow}
use Rattle.model_lists.proofs.RowLists.{each_append, each_any, each_weaker, each_found, none_any, find_any, find_test, any_none, filter_agree}
use Rattle.model_lists.proofs.RowSums.{count_none}
use Rattle.std.proofs.lemmas.List.Sums.{length-filter}
use Rattle.model_lists.proofs.DistinctLists.{distinct_append}
use Rattle.model_lists.proofs.KeptRows.{kept_pass, distinct_kept}
use Rattle.model_lists.proofs.NextNumbers.{is_not_after_itself, ordered, tested}
use Rattle.model_tables.proofs.SampleLists.{last_added, labels_below, each_without, distinct_without, others_stay, one_less, each_passing}

-- the label of a moment is not after it
pub label_past : (moment : ℕ) → nat_le (label_of moment) moment ≡ true
label_past moment = tested (label_of moment) moment (div-mul-le_self moment 30000)

-- and is a multiple of 30 seconds
pub label_whole : (moment : ℕ) → nat_eq (label_of moment % 30000) 0 ≡ true
label_whole moment = rw (mul-mod_left (moment / 30000) 30000) refl

-- both samples are of one pool and metric
abbrev pub same_series : SampleRow → SampleRow → Bool
same_series one other = same one.pool other.pool && same_metric one.metric other.metric

-- which is an equivalence
pub same_series_equiv : IsEquivalence same_series
same_series_equiv = both_equiv (on_equiv (λ (sample : SampleRow). sample.pool) same_equiv) (on_equiv (λ (sample : SampleRow). sample.metric) metric_equiv)

-- the label is above that of each sample of the pool and metric
abbrev pub is_newer : State → SampleRow → Bool
is_newer s sample = passes_if_some (λ newest. nat_lt newest sample.label) (newest_label s sample.pool sample.metric)

-- the sample is the processors' or the active tasks', or its label is not above the newest label of the active tasks
abbrev pub may_be_added : State → SampleRow → Bool
may_be_added s sample =
    same_metric sample.metric CpuPercent || same_metric sample.metric ActiveTasks
    || option_map_or (nat_le sample.label) (newest_label s sample.pool ActiveTasks) false

module _ (sample : SampleRow) (s : State) where
  -- the tables after the addition
  abbrev after : State
  after = add_sample sample s

  -- the samples that are kept
  abbrev pub room : List SampleRow
  room = with_room sample.pool sample.metric s.samples

  -- what holds of the samples with the oldest of the series and without it
  in_room : (P : List SampleRow → Type 0) → P s.samples → P (without_first (is_sample_of sample.pool sample.metric) s.samples) → P room
  in_room P all less = either (is_full sample.pool sample.metric s.samples)
    where
      either : (b : Bool) → P (cond b (without_first (is_sample_of sample.pool sample.metric) s.samples) s.samples)
      either true = less
      either false = all

  -- what each sample passes
  each_in_room : (p : SampleRow → Bool) → Each p s.samples → Each p room
  each_in_room p h = in_room (Each p) h (each_without (is_sample_of sample.pool sample.metric) p s.samples h)

  -- no two samples are related
  distinct_in_room : (r : SampleRow → SampleRow → Bool) → AreDistinct r s.samples → AreDistinct r room
  distinct_in_room r d = in_room (AreDistinct r) d (distinct_without (is_sample_of sample.pool sample.metric) r s.samples d)

  -- and what the added one passes as well
  pub each_added : (p : SampleRow → Bool) → Each p s.samples → p sample ≡ true → Each p after.samples
  each_added p h k = each_append p room sample (each_in_room p h) k

  -- where the sample is of the series, it stands last in it
  pub series_of_sample : (pool : List ℕ) (metric : Metric) → is_sample_of pool metric sample ≡ true
      → samples_of after pool metric ≡ filter (is_sample_of pool metric) room ++ sample ∷ []
  series_of_sample pool metric e = filter-append (is_sample_of pool metric) room (sample ∷ []) ∙ rw e refl

  -- samples of another series are none of that of the sample
  apart : (pool : List ℕ) (metric : Metric) → is_sample_of pool metric sample ≡ false → (one : SampleRow)
      → is_sample_of sample.pool sample.metric one ≡ true → is_sample_of pool metric one ≡ false
  apart pool metric e one h = same_series_equiv.congr one sample (record sample { pool = pool; metric = metric }) h ∙ e

  -- a sample of a series names it
  same_test : (pool : List ℕ) (metric : Metric) (one : SampleRow) → is_sample_of pool metric one ≡ true → (other : SampleRow)
      → is_sample_of one.pool one.metric other ≡ is_sample_of pool metric other
  same_test pool metric one h other =
      same_series_equiv.symm other one
      ∙ same_series_equiv.congr one (record one { pool = pool; metric = metric }) other h
      ∙ same_series_equiv.symm (record one { pool = pool; metric = metric }) other

  -- and another series stays as it is
  pub other_series : (pool : List ℕ) (metric : Metric) → is_sample_of pool metric sample ≡ false → samples_of after pool metric ≡ samples_of s pool metric
  other_series pool metric e =
      let stay : filter (is_sample_of pool metric) room ≡ samples_of s pool metric =
      in_room (λ samples. filter (is_sample_of pool metric) samples ≡ samples_of s pool metric) refl
      (others_stay (is_sample_of sample.pool sample.metric) (is_sample_of pool metric) (apart pool metric e) s.samples)
      in
      filter-append (is_sample_of pool metric) room (sample ∷ []) ∙ rw e (append-nil (filter (is_sample_of pool metric) room) ∙ stay)

  -- the newest label afterwards
  pub newest_added : (pool : List ℕ) (metric : Metric)
      → newest_label after pool metric ≡ cond (is_sample_of pool metric sample) (Some sample.label) (newest_label s pool metric)
  newest_added pool metric = by_series (is_sample_of pool metric sample) refl
    where
      by_series : (b : Bool) → is_sample_of pool metric sample ≡ b
          → newest_label after pool metric ≡ cond b (Some sample.label) (newest_label s pool metric)
      by_series true e = ap last_label (series_of_sample pool metric e) ∙ last_added (filter (is_sample_of pool metric) room) sample
      by_series false e = ap last_label (other_series pool metric e)

  -- how many samples of a series are kept

  -- no more than the limit
  few_of_series : Each (has_kept s) s.samples → (pool : List ℕ) (metric : Metric) → length (samples_of s pool metric) ≤ sample_limit
  few_of_series kept pool metric = by_one (list_any (is_sample_of pool metric) s.samples) refl
    where
      by_one : (b : Bool) → list_any (is_sample_of pool metric) s.samples ≡ b → length (samples_of s pool metric) ≤ sample_limit
      by_one true e =
          let some : (one : SampleRow) × (find (is_sample_of pool metric) s.samples ≡ Some one) = find_any (is_sample_of pool metric) s.samples e in
          let here : is_sample_of pool metric some.0 ≡ true = find_test (is_sample_of pool metric) some.0 s.samples some.1 in
          let all : samples_of s some.0.pool some.0.metric ≡ samples_of s pool metric =
          filter_agree (is_sample_of some.0.pool some.0.metric) (is_sample_of pool metric) (same_test pool metric some.0 here) s.samples
          in
          ordered (length (samples_of s pool metric)) sample_limit
          (subst (λ samples. nat_le (length samples) sample_limit ≡ true) all
          (each_found (has_kept s) (is_sample_of pool metric) some.0 s.samples some.1 kept))
      by_one false e =
          let none : length (samples_of s pool metric) ≡ 0 =
          length-filter (is_sample_of pool metric) s.samples
          ∙ count_none (is_sample_of pool metric) s.samples (any_none (is_sample_of pool metric) s.samples e)
          in
          omega (arith, none)

  -- and less before the sample is added
  room_for_one : Each (has_kept s) s.samples → length (filter (is_sample_of sample.pool sample.metric) room) + 1 ≤ sample_limit
  room_for_one kept = by_room (is_full sample.pool sample.metric s.samples) refl
    where
      under_limit : (limit n : ℕ) → nat_le limit n ≡ false → n + 1 ≤ limit
      under_limit limit n e = grind (arith, nat_tests)

      series : List SampleRow
      series = samples_of s sample.pool sample.metric

      by_room : (b : Bool) → nat_le sample_limit (length series) ≡ b
          → length (filter (is_sample_of sample.pool sample.metric) (cond b (without_first (is_sample_of sample.pool sample.metric) s.samples) s.samples)) + 1
          ≤ sample_limit
      by_room true e =
          let few : length series ≤ sample_limit = few_of_series kept sample.pool sample.metric in
          let full : sample_limit ≤ length series = ordered sample_limit (length series) e in
          let less : length (filter (is_sample_of sample.pool sample.metric) (without_first (is_sample_of sample.pool sample.metric) s.samples)) + 1 ≡ length series =
          one_less (is_sample_of sample.pool sample.metric) s.samples (omega (arith, full))
          in
          omega (arith, few, less)
      by_room false e = under_limit sample_limit (length series) e

  -- sound tables

  -- a sample of the series of the added one is older
  abbrev pub is_older : SampleRow → Bool
  is_older one = not (is_sample_of sample.pool sample.metric one) || nat_lt one.label sample.label

  pub others_older : AreDistinct are_labels_out_of_order s.samples → is_newer s sample ≡ true → Each is_older s.samples
  others_older order newer =
      each_passing (is_sample_of sample.pool sample.metric) (λ one. nat_lt one.label sample.label) s.samples
      (labels_below are_labels_out_of_order (is_sample_of sample.pool sample.metric) sample.label rise
      (samples_of s sample.pool sample.metric) (kept_pass (is_sample_of sample.pool sample.metric) s.samples)
      (distinct_kept (is_sample_of sample.pool sample.metric) are_labels_out_of_order s.samples order) newer)
    where
      above : (b : Bool) (label later : ℕ) → b ≡ true → (b && nat_le later label) ≡ false → nat_lt label later ≡ true
      above false label later e h = cc
      above true label later e h = grind (arith, nat_tests)

      rise : (one later : SampleRow) → is_sample_of sample.pool sample.metric one ≡ true → is_sample_of sample.pool sample.metric later ≡ true
          → are_labels_out_of_order one later ≡ false → nat_lt one.label later.label ≡ true
      rise one later h k =
          above (same_series one later) one.label later.label (same_test sample.pool sample.metric later k one ∙ h)

  -- no sample has the key of the added one
  pub no_same_key : Each is_older s.samples → list_any (λ one. same_sample one sample) room ≡ false
  no_same_key older =
      none_any (λ one. same_sample one sample) room
      (each_weaker is_older (λ one. not (same_sample one sample)) other_key room (each_in_room is_older older))
    where
      apart_by_label : (pool metric : Bool) (label newer : ℕ) → (not (pool && metric) || nat_lt label newer) ≡ true
          → not (pool && nat_eq label newer && metric) ≡ true
      apart_by_label false metric label newer h = refl
      apart_by_label true false label newer h = grind (arith, nat_tests)
      apart_by_label true true label newer h = grind (arith, nat_tests)

      other_key : (one : SampleRow) → is_older one ≡ true → not (same_sample one sample) ≡ true
      other_key one = apart_by_label (same one.pool sample.pool) (same_metric one.metric sample.metric) one.label sample.label

  keys_distinct : AreDistinct same_sample s.samples → Each is_older s.samples → AreDistinct same_sample after.samples
  keys_distinct keys older = distinct_append same_sample room sample (distinct_in_room same_sample keys) (no_same_key older)

  -- labels rise
  labels_rise : AreDistinct are_labels_out_of_order s.samples → Each is_older s.samples → AreDistinct are_labels_out_of_order after.samples
  labels_rise order older =
      distinct_append are_labels_out_of_order room sample (distinct_in_room are_labels_out_of_order order)
      (none_any (λ one. are_labels_out_of_order one sample) room
      (each_weaker is_older (λ one. not (are_labels_out_of_order one sample)) in_order room (each_in_room is_older older)))
    where
      rises : (series : Bool) (label newer : ℕ) → (not series || nat_lt label newer) ≡ true → not (series && nat_le newer label) ≡ true
      rises false label newer h = refl
      rises true label newer h = grind (arith, nat_tests)

      in_order : (one : SampleRow) → is_older one ≡ true → not (are_labels_out_of_order one sample) ≡ true
      in_order one = rises (same_series one sample) one.label sample.label

  -- other metrics than the processors' are not ahead of the active tasks
  covered_still : is_newer s sample ≡ true → (one : SampleRow) → is_covered s one ≡ true → is_covered after one ≡ true
  covered_still newer one h =
      rw (newest_added one.pool ActiveTasks)
      (by_series (is_sample_of one.pool ActiveTasks sample) (same_metric one.metric CpuPercent) (newest_label s one.pool ActiveTasks) refl refl h)
    where
      not_above : (newest : Option ℕ) (label : ℕ) → passes_if_some (λ n. nat_lt n sample.label) newest ≡ true → option_map_or (nat_le label) newest false ≡ true
          → nat_le label sample.label ≡ true
      not_above None label k m = cc
      not_above (Some n) label k m = grind (arith, nat_tests)

      by_series : (b cpu : Bool) (newest : Option ℕ) → is_sample_of one.pool ActiveTasks sample ≡ b → newest_label s one.pool ActiveTasks ≡ newest
          → (cpu || option_map_or (nat_le one.label) newest false) ≡ true
          → (cpu || option_map_or (nat_le one.label) (cond b (Some sample.label) newest) false) ≡ true
      by_series false cpu newest e m k = k
      by_series true true newest e m k = refl
      by_series true false newest e m k =
          let series : samples_of s sample.pool sample.metric ≡ samples_of s one.pool ActiveTasks =
          filter_agree (is_sample_of sample.pool sample.metric) (is_sample_of one.pool ActiveTasks) (same_test one.pool ActiveTasks sample e) s.samples
          in
          not_above newest one.label (subst (λ o. passes_if_some (λ n. nat_lt n sample.label) o ≡ true) (ap last_label series ∙ m) newer) k

  sample_covered : may_be_added s sample ≡ true → is_covered after sample ≡ true
  sample_covered may =
      rw (newest_added sample.pool ActiveTasks)
      (by_metric (same_metric sample.metric CpuPercent) (same_metric sample.metric ActiveTasks) (same sample.pool sample.pool)
      (newest_label s sample.pool ActiveTasks) (same_equiv.refl sample.pool) may)
    where
      by_metric : (cpu active pool : Bool) (newest : Option ℕ) → pool ≡ true
          → (cpu || active || option_map_or (nat_le sample.label) newest false) ≡ true
          → (cpu || option_map_or (nat_le sample.label) (cond (pool && active) (Some sample.label) newest) false) ≡ true
      by_metric true active pool newest e h = refl
      by_metric false active false newest e h = cc
      by_metric false true true newest e h = is_not_after_itself sample.label
      by_metric false false true newest e h = h

  -- no more samples are kept than the limit
  kept_still : Each (has_kept s) s.samples → (one : SampleRow) → has_kept after one ≡ true
  kept_still kept one = tested (length (samples_of after one.pool one.metric)) sample_limit (by_series (is_sample_of one.pool one.metric sample) refl)
    where
      by_series : (b : Bool) → is_sample_of one.pool one.metric sample ≡ b → length (samples_of after one.pool one.metric) ≤ sample_limit
      by_series true e =
          let series : filter (is_sample_of sample.pool sample.metric) room ≡ filter (is_sample_of one.pool one.metric) room =
          filter_agree (is_sample_of sample.pool sample.metric) (is_sample_of one.pool one.metric) (same_test one.pool one.metric sample e) room
          in
          let fits : length (filter (is_sample_of one.pool one.metric) room) + 1 ≤ sample_limit =
          subst (λ samples. length samples + 1 ≤ sample_limit) series (room_for_one kept)
          in
          rw (series_of_sample one.pool one.metric e, length-append) fits
      by_series false e = rw (other_series one.pool one.metric e) (few_of_series kept one.pool one.metric)

  -- the rows fit each other
  consistent_sample_added : (seats : ℕ) → is_newer s sample ≡ true → AreDistinct are_labels_out_of_order s.samples → IsConsistent seats s
      → IsConsistent seats after
  consistent_sample_added seats newer order h = record {
    keys = record {
      pools = h.keys.pools;
      nodes = h.keys.nodes;
      jobs = h.keys.jobs;
      tasks = h.keys.tasks;
      runs = h.keys.runs;
      preps = h.keys.preps;
      samples = keys_distinct h.keys.samples (others_older order newer);
      scales = h.keys.scales;
    };
    numbers = record {
      begun = h.numbers.begun;
      runs = h.numbers.runs;
      nodes = h.numbers.nodes;
      nodes_of_runs = h.numbers.nodes_of_runs;
      order = h.numbers.order;
    };
    fitting = record { marks = h.fitting.marks; closing = h.fitting.closing; attempts = h.fitting.attempts };
    named = record {
      jobs_of_tasks = h.named.jobs_of_tasks;
      jobs_of_runs = h.named.jobs_of_runs;
      tasks_of_runs = h.named.tasks_of_runs;
      main_runs = h.named.main_runs;
    };
    seated = record {
      distinct = h.seated.distinct;
      in_range = h.seated.in_range;
      few = h.seated.few;
      pools_of_nodes = h.seated.pools_of_nodes;
      nodes_of_runs = h.seated.nodes_of_runs;
    };
    belonging = h.belonging;
    ending = h.ending;
    naming = record { on_nodes = h.naming.on_nodes; of_jobs = h.naming.of_jobs };
    slots = h.slots;
    built = record { runs = h.built.runs };
  }

  module _ (pool : has_pool_row s sample.pool ≡ true) (valid : is_sample_valid s.moment sample ≡ true) (label : has_label sample ≡ true)
      (newer : is_newer s sample ≡ true) (may : may_be_added s sample ≡ true) where
    -- values stay within the limits
    limited_sample_added : IsWithinLimits s → IsWithinLimits after
    limited_sample_added h = record {
      rows = record {
        moment = h.rows.moment;
        pools = h.rows.pools;
        nodes = h.rows.nodes;
        jobs = h.rows.jobs;
        tasks = h.rows.tasks;
        runs = h.rows.runs;
        samples = each_added (is_sample_valid s.moment) h.rows.samples valid;
        scales = h.rows.scales;
      };
      counts = record {
        pools = h.counts.pools;
        jobs = h.counts.jobs;
        tasks = h.counts.tasks;
        first_node = h.counts.first_node;
        next_node = h.counts.next_node;
        first_run = h.counts.first_run;
        next_run = h.counts.next_run;
      };
      quiet = h.quiet;
      pools = record {
        deleting = h.pools.deleting;
        pools_of_scales = h.pools.pools_of_scales;
        pools_of_samples = each_added (λ (one : SampleRow). has_pool_row s one.pool) h.pools.pools_of_samples pool;
        labels = each_added has_label h.pools.labels label;
        order = labels_rise h.pools.order (others_older h.pools.order newer);
        covered =
            each_append (is_covered after) room sample
            (each_weaker (is_covered s) (is_covered after) (covered_still newer) room (each_in_room (is_covered s) h.pools.covered)) (sample_covered may);
        kept = each_any (has_kept after) (kept_still h.pools.kept) after.samples;
      };
    }

    -- all of these
    sound_after : (seats : ℕ) → IsSound seats s → IsSound seats after
    sound_after seats h = record {
      consistent = consistent_sample_added seats newer h.limited.pools.order h.consistent;
      limited = limited_sample_added h.limited;
      unended = h.unended;
      starts = record { usable = h.starts.usable; tries = h.starts.tries };
      preparing = record {
        jobs_of_preps = h.preparing.jobs_of_preps;
        nodes_of_preps = h.preparing.nodes_of_preps;
        running = h.preparing.running;
        single = h.preparing.single;
        prepared = h.preparing.prepared;
        released = h.preparing.released;
        tries = h.preparing.tries;
      };
      resting = h.resting;
    }

-- a valid sample of a pool that is there, with a label that is a multiple of 30 seconds and above the others of its pool and metric
pub sound_sample_added : (seats : ℕ) (sample : SampleRow) (s : State) → has_pool_row s sample.pool ≡ true → is_sample_valid s.moment sample ≡ true
    → has_label sample ≡ true → is_newer s sample ≡ true → may_be_added s sample ≡ true → IsSound seats s → IsSound seats (add_sample sample s)
sound_sample_added seats sample s pool valid label newer may = sound_after sample s pool valid label newer may seats
