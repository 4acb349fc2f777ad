-- The changes by which samples are added.
use Rattle.std.specs.Prelude.{ℕ, List, [], ◌∷◌, ◌++◌, ℤ}
use Rattle.bt_rows.specs.declared.tables.Change.{Change}
use Rattle.bt_rows.specs.declared.tables.Change.TheVariants.{PutSample, DropSample}
use Rattle.batch_model.specs.Samples.{label_of}
use Rattle.batch_model.specs.Variants.{Metric, SampleRow}
use Rattle.row_changes.specs.Puts.{put_if_some}
use Rattle.pool_samples.specs.declared.kept.Kept.{Kept}
use Rattle.pool_samples.specs.declared.metrics.PoolMetrics.{PoolMetrics}
use Rattle.pool_samples.specs.Counts.{value_of}
use Rattle.pool_samples.specs.Kept.{kept_at, leaving}

-- a sample that is taken at a moment
abbrev pub sample_at : ℕ → List ℕ → Metric → ℤ → SampleRow
sample_at moment in_pool of_metric number = record { pool = in_pool; metric = of_metric; label = label_of moment; value = number }

-- the drop of the sample of the pool and metric that has the label
abbrev pub drop_at : List ℕ → Metric → ℕ → Change
drop_at in_pool of_metric at = DropSample (record { pool = in_pool; metric = of_metric; label = at })

-- the drop of the oldest sample of the pool and metric, if no more are kept, and the put of a new one
abbrev pub added : Kept → SampleRow → List Change
added kept sample = put_if_some (drop_at sample.pool sample.metric) (leaving kept) ++ PutSample sample ∷ []

-- those that add a sample of a metric with its value
abbrev pub metric_added : List Kept → ℕ → List ℕ → PoolMetrics → Metric → List Change
metric_added kept moment pool values metric = added (kept_at kept metric) (sample_at moment pool metric (value_of values metric))

-- the same for each of these metrics
abbrev pub all_added : List Kept → ℕ → List ℕ → PoolMetrics → List Metric → List Change
all_added kept moment pool values [] = []
all_added kept moment pool values (metric ∷ metrics) = metric_added kept moment pool values metric ++ all_added kept moment pool values metrics
