-- Automatic scaling changes rows of pools, rows of how pools scale, and samples, and no other part of the tables.
use Rattle.std.proofs.Common.{ℕ, List, [], ◌∷◌, Option, Some, None, unwrap_or}
use Rattle.bt_rows.specs.declared.event.Scaling.{Scaling}
use Rattle.bt_rows.specs.declared.event.ScaleSpec.{ScaleSpec}
use Rattle.batch_model.specs.Finding.{at_row}
use Rattle.batch_model.specs.Metrics.{metric_value, add_samples}
use Rattle.batch_model.specs.Rows.{put_pool}
use Rattle.batch_model.specs.Samples.{new_sample, add_sample}
use Rattle.batch_model.specs.Scaling.{scale_of, put_scale, add_scale_row, usual_interval, new_scale, add_given_scale, rescaled, scaled_by, enabled_now}
use Rattle.batch_model.specs.Scaling.{autoscale_enabled}
use Rattle.batch_model.specs.Variants.{State, PoolRow, Metric, SampleRow, ScaleRow}

-- what holds of the tables whatever the rows of how pools scale are
module _ (P : State → Type 0) (s : State) (whatever : (rows : List ScaleRow) → P (record s { scales = rows })) where
  -- holds once a new pool scales as it is told
  pub given_scale_leaves : (pool : List ℕ) (given : Option Scaling) → P (add_given_scale pool given s)
  given_scale_leaves pool None = whatever s.scales
  given_scale_leaves pool (Some scaling) = whatever (add_given_scale pool (Some scaling) s).scales

  -- and once a pool scales by the given parts
  scaled_leaves : (spec : ScaleSpec) (pool : List ℕ) (row : Option ScaleRow) → P (scaled_by spec pool row s)
  scaled_leaves spec pool (Some old) = whatever (put_scale (rescaled s.moment spec old) s).scales
  scaled_leaves spec pool None = by_formula spec.formula
    where
      by_formula : (formula : Option (List ℕ)) → P (at_row (λ text. add_scale_row (new_scale s.moment pool text (unwrap_or spec.interval usual_interval))) formula s)
      by_formula None = whatever s.scales
      by_formula (Some text) = whatever (add_scale_row (new_scale s.moment pool text (unwrap_or spec.interval usual_interval)) s).scales

-- what holds whatever these rows and those of pools are holds after `enable-autoscale`
pub enabled_leaves : (P : State → Type 0) (s : State)
    → ((pools : List PoolRow) (rows : List ScaleRow) → P (record s { pools = pools; scales = rows }))
    → (spec : ScaleSpec) (pool : PoolRow) → P (autoscale_enabled s spec pool)
enabled_leaves P s whatever spec pool =
    let row : PoolRow = enabled_now s.moment pool in
    scaled_leaves (λ t. P (put_pool row t)) s (λ rows. whatever (put_pool row s).pools rows) spec pool.id (scale_of s pool.id)

-- what holds whatever the samples are holds after samples are added
pub samples_leave : (P : State → Type 0) (s : State) (pool : PoolRow) (metrics : List Metric) (t : State)
    → ((samples : List SampleRow) → P (record t { samples = samples })) → P (add_samples s pool metrics t)
samples_leave P s pool [] t whatever = whatever t.samples
samples_leave P s pool (metric ∷ metrics) t whatever =
    samples_leave P s pool metrics (add_sample (new_sample s pool.id metric (metric_value s pool metric)) t) whatever
