-- Samples of pools: one of a metric at most for each half minute, of which the newest are kept.
-- Source: Azure Batch documentation of automatic scaling; labels, and how many samples are kept, are this project's own.
use Rattle.std.specs.Prelude.{ℕ, ◌*◌, ◌/◌, Bool, ◌&&◌, nat_le, List, [], ◌∷◌, ◌++◌, filter, length, ℤ, Option, Some, None, if◌then◌else◌}
use Rattle.bt_base.specs.Ids.{same}
use Rattle.bt_samples.specs.declared.history.TheConstants.{MAX_SAMPLES, SAMPLE_INTERVAL_MS}
use Rattle.bt_rows.specs.Metrics.{same_metric}
use Rattle.bt_rows.specs.declared.refusal.Refusal.{Refusal}
use Rattle.bt_rows.specs.declared.refusal.Refusal.TheVariants.{SampleTooOld}
use Rattle.batch_model.specs.Steps.{refuse_if}
use Rattle.batch_model.specs.Variants.{State, Metric, SampleRow}

-- the last multiple of 30 seconds that is not above a moment
abbrev pub label_of : ℕ → ℕ
label_of moment = moment / SAMPLE_INTERVAL_MS * SAMPLE_INTERVAL_MS

-- the number of samples of a pool and metric that are kept
abbrev pub sample_limit : ℕ
sample_limit = MAX_SAMPLES

-- a sample of the pool and metric
abbrev pub is_sample_of : List ℕ → Metric → SampleRow → Bool
is_sample_of pool metric sample = same sample.pool pool && same_metric sample.metric metric

-- the samples of the pool and metric
abbrev pub samples_of : State → List ℕ → Metric → List SampleRow
samples_of s pool metric = filter (is_sample_of pool metric) s.samples

-- the last of the labels, which rise
abbrev pub last_label : List SampleRow → Option ℕ
last_label [] = None
last_label (sample ∷ []) = Some sample.label
last_label (sample ∷ other ∷ samples) = last_label (other ∷ samples)

-- the newest label of the pool and metric
abbrev pub newest_label : State → List ℕ → Metric → Option ℕ
newest_label s pool metric = last_label (samples_of s pool metric)

-- the newest sample has this label or a later one
abbrev pub sample_refusal : ℕ → ℕ → Option Refusal
sample_refusal label newest = refuse_if (nat_le label newest) (SampleTooOld newest)

-- a sample of now
abbrev pub new_sample : State → List ℕ → Metric → ℤ → SampleRow
new_sample s in_pool of_metric number = record { pool = in_pool; metric = of_metric; label = label_of s.moment; value = number }

-- without the first sample that passes the test
abbrev pub without_first : (SampleRow → Bool) → List SampleRow → List SampleRow
without_first test [] = []
without_first test (sample ∷ samples) = if test sample then samples else sample ∷ without_first test samples

-- no more samples of the pool and metric are kept
abbrev pub is_full : List ℕ → Metric → List SampleRow → Bool
is_full pool metric samples = nat_le sample_limit (length (filter (is_sample_of pool metric) samples))

-- the oldest sample of the pool and metric goes if no more are kept
abbrev pub with_room : List ℕ → Metric → List SampleRow → List SampleRow
with_room pool metric samples = if is_full pool metric samples then without_first (is_sample_of pool metric) samples else samples

-- the newest sample stands last
abbrev pub add_sample : SampleRow → State → State
add_sample sample s = record s { samples = with_room sample.pool sample.metric s.samples ++ sample ∷ [] }
