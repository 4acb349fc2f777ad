-- A pool lacks samples of now exactly if its active tasks have no sample with the label of now.
use Rattle.std.proofs.Common.{◌≡◌, ℕ, ◌*◌, ◌/◌, ◌%◌, Bool, true, false, not, ◌&&◌, ◌||◌, cond, nat_eq, nat_lt, nat_le, List, [], ◌∷◌, Option, Some, None, filter, find, is_some, is_none, refl, ◌∙◌, ap, arith}
use Rattle.std.specs.List.{list_any}
use Rattle.std.specs.Prelude.{pos}
use Rattle.std.specs.Option.{option_map_or}
use Rattle.std.proofs.lemmas.Bool.Decides.{nat_tests}
use Rattle.bt_base.specs.Ids.{same}
use Rattle.bt_rows.specs.Keys.{sample_has_label, scale_has_pool}
use Rattle.bt_rows.specs.Metrics.{same_metric}
use Rattle.bt_rows.specs.Ranges.{passes_if_some}
use Rattle.batch_model.specs.Samples.{is_sample_of, label_of, last_label, newest_label, samples_of}
use Rattle.batch_model.specs.Scaling.{lacks_sample}
use Rattle.batch_model.specs.WellFormed.{has_label, is_sample_in_range, is_sample_valid}
use Rattle.batch_model.specs.Variants.{State, PoolRow, ActiveTasks, SampleRow, ScaleRow}
use Rattle.model_lists.proofs.Tests.{and_first, and_second, alike}
use Rattle.model_lists.proofs.RowLists.{any_weaker_where, each_and, each_found, find_any, find_test}
use Rattle.model_tables.proofs.SamplesAdded.{is_older, others_older}
use Rattle.pool_samples.specs.Changes.{sample_at}
use Rattle.pool_samples.specs.Conditions.{CanSample}

-- a search finds a row exactly if some row passes
pub found_any : {R : Type 0} (test : R → Bool) (rows : List R) → is_some (find test rows) ≡ list_any test rows
found_any test [] = refl
found_any test (row ∷ rows) = either (test row) (found_any test rows)
  where
    either : (b : Bool) → is_some (find test rows) ≡ list_any test rows → is_some (cond b (Some row) (find test rows)) ≡ (b || list_any test rows)
    either true h = refl
    either false h = h

pub scale_found : (pool : List ℕ) (scales : List ScaleRow) → is_some (find (scale_has_pool pool) scales) ≡ list_any (λ (scale : ScaleRow). same scale.pool pool) scales
scale_found pool scales = found_any (scale_has_pool pool) scales

-- what the last label passes, some sample passes
last_passes : (p : ℕ → Bool) (samples : List SampleRow) → option_map_or p (last_label samples) false ≡ true → list_any (λ sample. p sample.label) samples ≡ true
last_passes p [] h = cc
last_passes p (sample ∷ []) h = rw h refl
last_passes p (sample ∷ other ∷ samples) h = later (p sample.label) (last_passes p (other ∷ samples) h)
  where
    later : (b : Bool) → list_any (λ one. p one.label) (other ∷ samples) ≡ true → (b || list_any (λ one. p one.label) (other ∷ samples)) ≡ true
    later true k = refl
    later false k = k

-- some of the rows that pass a test pass another
any_in_filter : {R : Type 0} (test p : R → Bool) (rows : List R) → list_any p (filter test rows) ≡ true → list_any (λ row. test row && p row) rows ≡ true
any_in_filter test p [] h = cc
any_in_filter test p (row ∷ rows) h = either (test row) h (any_in_filter test p rows)
  where
    either : (b : Bool) → list_any p (cond b (row ∷ filter test rows) (filter test rows)) ≡ true
        → (list_any p (filter test rows) ≡ true → list_any (λ one. test one && p one) rows ≡ true)
        → ((b && p row) || list_any (λ one. test one && p one) rows) ≡ true
    either true k ih = first (p row) k ih
      where
        first : (c : Bool) → (c || list_any p (filter test rows)) ≡ true
            → (list_any p (filter test rows) ≡ true → list_any (λ one. test one && p one) rows ≡ true)
            → (c || list_any (λ one. test one && p one) rows) ≡ true
        first true m n = refl
        first false m n = n m
    either false k ih = ih k

module _ (s : State) (pool : PoolRow) where
  -- the newest label of the active tasks
  abbrev newest : Option ℕ
  newest = newest_label s pool.id ActiveTasks

  -- a sample of the active tasks with the label of now
  abbrev is_now : SampleRow → Bool
  is_now = sample_has_label pool.id ActiveTasks (label_of s.moment)

  -- it is newest, or an older one would be
  module _ (able : CanSample s) where
    now_is_newest : list_any is_now s.samples ≡ true → option_map_or (nat_le (label_of s.moment)) newest false ≡ true
    now_is_newest h = by_newest newest refl
      where
        some : (one : SampleRow) × (find is_now s.samples ≡ Some one)
        some = find_any is_now s.samples h

        is_there : is_now some.0 ≡ true
        is_there = find_test is_now some.0 s.samples some.1

        -- a sample of the label is not older
        not_older : (pool metric : Bool) (label now : ℕ) → (pool && nat_eq label now && metric) ≡ true → (not (pool && metric) || nat_lt label now) ≡ true → ⊥
        not_older false metric label now k m = cc
        not_older true false label now k m = grind (arith, nat_tests)
        not_older true true label now k m = grind (arith, nat_tests)

        above : (newest : ℕ) (label : ℕ) → nat_le label newest ≡ false → nat_lt newest label ≡ true
        above newest label k = grind (arith, nat_tests)

        contra : passes_if_some (λ label. nat_lt label (label_of s.moment)) newest ≡ true → ⊥
        contra k =
            not_older (same some.0.pool pool.id) (same_metric some.0.metric ActiveTasks) some.0.label (label_of s.moment) is_there
            (each_found (is_older (sample_at s.moment pool.id ActiveTasks (pos 0)) s) is_now some.0 s.samples some.1
            (others_older (sample_at s.moment pool.id ActiveTasks (pos 0)) s able.pools.order k))

        by_label : (label : ℕ) (b : Bool) → newest ≡ Some label → nat_le (label_of s.moment) label ≡ b → b ≡ true
        by_label label true e k = refl
        by_label label false e k = absurd (contra (rw e (above label (label_of s.moment) k)))

        by_newest : (o : Option ℕ) → newest ≡ o → option_map_or (nat_le (label_of s.moment)) o false ≡ true
        by_newest None e = absurd (contra (rw e refl))
        by_newest (Some label) e = by_label label (nat_le (label_of s.moment) label) e refl

    -- a newest one that is not older has the label of now, since no label is above that
    newest_is_now : option_map_or (nat_le (label_of s.moment)) newest false ≡ true → list_any is_now s.samples ≡ true
    newest_is_now h =
        any_weaker_where (λ one. is_sample_valid s.moment one && has_label one) (λ one. is_sample_of pool.id ActiveTasks one && nat_le (label_of s.moment) one.label)
        is_now last s.samples (each_and (is_sample_valid s.moment) has_label s.samples able.rows.samples able.pools.labels)
        (any_in_filter (is_sample_of pool.id ActiveTasks) (λ one. nat_le (label_of s.moment) one.label) s.samples
        (last_passes (nat_le (label_of s.moment)) (samples_of s pool.id ActiveTasks) h))
      where
        whole : (label moment : ℕ) → nat_eq (label % 30000) 0 ≡ true → nat_le label moment ≡ true → nat_le (moment / 30000 * 30000) label ≡ true
            → nat_eq label (moment / 30000 * 30000) ≡ true
        whole label moment k m n = grind (arith, nat_tests)

        joined : (a b c : Bool) → (a && b) ≡ true → c ≡ true → (a && c && b) ≡ true
        joined true true c k m = m_true c m
          where
            m_true : (d : Bool) → d ≡ true → (d && true) ≡ true
            m_true true e = refl
            m_true false e = cc
        joined true false c k m = cc
        joined false b c k m = cc

        last : (one : SampleRow) → (is_sample_valid s.moment one && has_label one) ≡ true
            → (is_sample_of pool.id ActiveTasks one && nat_le (label_of s.moment) one.label) ≡ true → is_now one ≡ true
        last one k m =
            joined (same one.pool pool.id) (same_metric one.metric ActiveTasks) (nat_eq one.label (label_of s.moment))
            (and_first (is_sample_of pool.id ActiveTasks one) (nat_le (label_of s.moment) one.label) m)
            (whole one.label s.moment (and_second (is_sample_valid s.moment one) (has_label one) k)
            (and_second (is_sample_in_range one) (nat_le one.label s.moment) (and_first (is_sample_valid s.moment one) (has_label one) k))
            (and_second (is_sample_of pool.id ActiveTasks one) (nat_le (label_of s.moment) one.label) m))

    pub lacks_now : (found : Option SampleRow) → found ≡ find is_now s.samples → is_none found ≡ lacks_sample s pool
    lacks_now found e =
        opposite found
        ∙ ap not (ap is_some e ∙ found_any is_now s.samples
        ∙ alike (list_any is_now s.samples) (option_map_or (nat_le (label_of s.moment)) newest false) now_is_newest newest_is_now)
      where
        opposite : (o : Option SampleRow) → is_none o ≡ not (is_some o)
        opposite None = refl
        opposite (Some one) = refl
