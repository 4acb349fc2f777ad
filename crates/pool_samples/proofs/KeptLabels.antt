-- What is kept of each metric, as samples are noted one after the other.
use Rattle.std.proofs.Common.{◌≡◌, ℕ, ◌-◌, ◌<◌, ◌≢◌, Bool, true, false, ◌&&◌, cond, nat_eq, List, [], ◌∷◌, Option, Some, filter, length, get_or, set, refl, sym, ◌∙◌, ap, arith, get_or-set_same, get_or-set_other}
use Rattle.std.specs.Prelude.{unwrap_or}
use Rattle.std.proofs.lemmas.Bool.Decides.{nat_tests}
use Rattle.bt_base.specs.Ids.{same}
use Rattle.bt_base.specs.declared.pool_metric.Metric.TheVariants.{RunningTasks, PendingTasks, SucceededTasks, FailedTasks, TaskSlotsPerNode}
use Rattle.bt_base.specs.declared.pool_metric.Metric.TheVariants.{CurrentDedicatedNodes, CurrentLowPriorityNodes, PreemptedNodeCount}
use Rattle.bt_rows.specs.Metrics.{place_of_metric}
use Rattle.batch_model.specs.Samples.{is_sample_of, last_label}
use Rattle.batch_model.specs.Variants.{Metric, CpuPercent, ActiveTasks, SampleRow}
use Rattle.pool_samples.specs.declared.kept.Kept.{Kept}
use Rattle.pool_samples.specs.Kept.{kept_at, none_kept, noted, noted_all, noted_if}

-- the place of each metric
pub place_below : (metric : Metric) → place_of_metric metric < 10
place_below CpuPercent = omega arith
place_below ActiveTasks = omega arith
place_below RunningTasks = omega arith
place_below PendingTasks = omega arith
place_below SucceededTasks = omega arith
place_below FailedTasks = omega arith
place_below TaskSlotsPerNode = omega arith
place_below CurrentDedicatedNodes = omega arith
place_below CurrentLowPriorityNodes = omega arith
place_below PreemptedNodeCount = omega arith

-- a sample of the pool is noted at the place of its metric
pub noted_there : (kept : List Kept) (sample : SampleRow) (pool : List ℕ) (metric : Metric) → length kept ≡ 10 → same sample.pool pool ≡ true
    → kept_at (set kept (place_of_metric sample.metric) (noted sample.label (kept_at kept sample.metric))) metric
    ≡ noted_if (is_sample_of pool metric sample) sample.label (kept_at kept metric)
noted_there kept sample pool metric long here =
    by_place (nat_eq (place_of_metric sample.metric) (place_of_metric metric)) refl ∙ ap (λ b. noted_if b sample.label (kept_at kept metric)) (sym test)
  where
    test : is_sample_of pool metric sample ≡ nat_eq (place_of_metric sample.metric) (place_of_metric metric)
    test = ap (λ b. b && nat_eq (place_of_metric sample.metric) (place_of_metric metric)) here

    within : place_of_metric sample.metric < length kept
    within = let below : place_of_metric sample.metric < 10 = place_below sample.metric in omega (arith, long, below)

    alike : (a b : ℕ) → nat_eq a b ≡ true → a ≡ b
    alike a b h = grind (arith, nat_tests)

    other : (a b : ℕ) → nat_eq a b ≡ false → b ≢ a
    other a b h = grind (arith, nat_tests)

    by_place : (b : Bool) → nat_eq (place_of_metric sample.metric) (place_of_metric metric) ≡ b
        → kept_at (set kept (place_of_metric sample.metric) (noted sample.label (kept_at kept sample.metric))) metric
        ≡ noted_if b sample.label (kept_at kept metric)
    by_place true e =
        let is : place_of_metric sample.metric ≡ place_of_metric metric = alike (place_of_metric sample.metric) (place_of_metric metric) e in
        ap
        (λ at. get_or (set kept (place_of_metric sample.metric) (noted sample.label (kept_at kept sample.metric))) at none_kept)
        (sym is)
        ∙ get_or-set_same kept (place_of_metric sample.metric) (noted sample.label (kept_at kept sample.metric)) none_kept within
        ∙ ap (λ at. noted sample.label (get_or kept at none_kept)) is
    by_place false e =
        get_or-set_other kept (place_of_metric sample.metric) (place_of_metric metric) (noted sample.label (kept_at kept sample.metric)) none_kept
        (other (place_of_metric sample.metric) (place_of_metric metric) e)

-- a sample of another pool is not noted
pub not_noted : (kept : List Kept) (sample : SampleRow) (pool : List ℕ) (metric : Metric) → same sample.pool pool ≡ false
    → kept_at kept metric ≡ noted_if (is_sample_of pool metric sample) sample.label (kept_at kept metric)
not_noted kept sample pool metric away = rw away refl

-- a sample that is noted, and those that are left
pub noted_more : (pool : List ℕ) (metric : Metric) (sample : SampleRow) (samples : List SampleRow) (kept more : Kept)
    → more ≡ noted_if (is_sample_of pool metric sample) sample.label kept
    → noted_all (filter (is_sample_of pool metric) samples) more ≡ noted_all (filter (is_sample_of pool metric) (sample ∷ samples)) kept
noted_more pool metric sample samples kept more e =
    ap (noted_all (filter (is_sample_of pool metric) samples)) e ∙ either (is_sample_of pool metric sample)
  where
    either : (b : Bool)
        → noted_all (filter (is_sample_of pool metric) samples) (noted_if b sample.label kept)
        ≡ noted_all (cond b (sample ∷ filter (is_sample_of pool metric) samples) (filter (is_sample_of pool metric) samples)) kept
    either true = refl
    either false = refl

-- what the notes say

pub noted_room : (samples : List SampleRow) (kept : Kept) → (noted_all samples kept).room ≡ kept.room - length samples
noted_room [] kept = omega arith
noted_room (sample ∷ samples) kept =
    let more : (noted_all samples (noted sample.label kept)).room ≡ (kept.room - 1) - length samples = noted_room samples (noted sample.label kept) in
    omega (arith, more)

pub noted_oldest : (samples : List SampleRow) (kept : Kept) (label : ℕ) → kept.oldest ≡ Some label → (noted_all samples kept).oldest ≡ Some label
noted_oldest [] kept label e = e
noted_oldest (sample ∷ samples) kept label e =
    noted_oldest samples (noted sample.label kept) label (ap (λ (o : Option ℕ). Some (unwrap_or o sample.label)) e)

pub noted_newest : (sample : SampleRow) (samples : List SampleRow) (kept : Kept) → (noted_all (sample ∷ samples) kept).newest ≡ last_label (sample ∷ samples)
noted_newest sample [] kept = refl
noted_newest sample (other ∷ samples) kept = noted_newest other samples (noted sample.label kept)

-- the newest label of a metric
pub newest_noted : (samples : List SampleRow) → (noted_all samples none_kept).newest ≡ last_label samples
newest_noted [] = refl
newest_noted (sample ∷ samples) = noted_newest sample samples none_kept
