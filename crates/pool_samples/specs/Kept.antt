-- How many samples of a metric are kept, and the oldest and the newest of them.
use Rattle.std.specs.Prelude.{◌≡◌, ℕ, ◌-◌, Bool, List, [], ◌∷◌, get_or, nat_eq, nat_le, Option, Some, None, unwrap_or, if◌then◌else◌}
use Rattle.bt_rows.specs.Metrics.{place_of_metric}
use Rattle.batch_model.specs.Finding.{only_if}
use Rattle.batch_model.specs.Samples.{sample_limit, samples_of}
use Rattle.batch_model.specs.Variants.{State, Metric, SampleRow}
use Rattle.pool_samples.specs.declared.kept.Kept.{Kept}

-- no samples
abbrev pub none_kept : Kept
none_kept = record { room = sample_limit; oldest = None; newest = None }

-- with one more
abbrev pub noted : ℕ → Kept → Kept
noted at kept = record { room = kept.room - 1; oldest = Some (unwrap_or kept.oldest at); newest = Some at }

-- with one more, if it is one of these
abbrev pub noted_if : Bool → ℕ → Kept → Kept
noted_if test at kept = if test then noted at kept else kept

-- with all of these, from the oldest on
abbrev pub noted_all : List SampleRow → Kept → Kept
noted_all [] kept = kept
noted_all (sample ∷ samples) kept = noted_all samples (noted sample.label kept)

-- what is kept of a metric
abbrev pub kept_at : List Kept → Metric → Kept
kept_at kept metric = get_or kept (place_of_metric metric) none_kept

-- this is kept of a metric of the pool
abbrev pub IsKept : State → List ℕ → Metric → Kept → Type 0
IsKept s pool metric kept = kept ≡ noted_all (samples_of s pool metric) none_kept

-- the same of each metric
abbrev pub AreKept : State → List ℕ → List Kept → Type 0
AreKept s pool kept = (metric : Metric) → IsKept s pool metric (kept_at kept metric)

-- the label of the sample that goes when one more is added, if no more are kept
abbrev pub leaving : Kept → Option ℕ
leaving kept = only_if (nat_eq kept.room 0) kept.oldest

-- the newest label, if it is not below this one
abbrev pub taken_since : ℕ → Option ℕ → Option ℕ
taken_since label None = None
taken_since label (Some newest) = only_if (nat_le label newest) (Some newest)
