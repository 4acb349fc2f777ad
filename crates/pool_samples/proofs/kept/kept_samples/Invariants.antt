use Rattle.std.proofs.Common.{◌≡◌, filter}
use Rattle.batch_model.specs.Samples.{is_sample_of, samples_of}
use Rattle.batch_model.specs.Variants.{Metric}
use Rattle.pool_samples.specs.Kept.{kept_at, none_kept, noted_all}
use Rattle.pool_samples.proofs.kept.kept_samples.Given as goal

-- of each metric what is noted and what is left give what is kept of all
abbrev pub invariant-loop-sample : goal.invariant-loop-sample
invariant-loop-sample l =
    (metric : Metric) → noted_all (filter (is_sample_of l.pool metric) l.sample-iterator) (kept_at l.kept metric)
    ≡ noted_all (samples_of l.tables.state l.pool metric) none_kept
