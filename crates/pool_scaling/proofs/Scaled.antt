-- Tables after an evaluation, and that the next evaluation has a moment.
use Rattle.std.proofs.Common.{◌≡◌, ℕ, ◌+◌, ◌<◌, ◌≤◌, ◌^◌, Bool, true, false, nat_eq, ◌∷◌, [], List, Option, Some, None, cond, refl, ◌∙◌, ap, arith}
use Rattle.std.proofs.lemmas.Bool.Decides.{nat_tests}
use Rattle.bt_base.specs.Moments.{last_moment}
use Rattle.bt_rows.specs.Changes.{apply_change, apply_changes}
use Rattle.bt_rows.specs.Ranges.{is_formula_text, is_interval}
use Rattle.bt_rows.specs.declared.tables.Change.TheVariants.{PutPool, PutScale}
use Rattle.formula_eval.specs.declared.outcome.Targets.{Targets}
use Rattle.batch_model.specs.Pools.{resizing_from, staying_count}
use Rattle.batch_model.specs.Rows.{pool_of}
use Rattle.batch_model.specs.Scaling.{evaluated_now, is_scale, pool_after, put_scale, retargeted_to, scale_of, scaled_after}
use Rattle.batch_model.specs.WellFormed.{KeysAreDistinct, RowsAreValid, is_scale_in_range}
use Rattle.batch_model.specs.Variants.{State, PoolRow, Dealloc, ScaleRow}
use Rattle.model_lists.proofs.RowLists.{each_found}
use Rattle.model_lists.proofs.Tests.{and_second}
use Rattle.pool_scaling.proofs.ScalePuts.{pool_put_after, scale_changed}

-- a moment in the years that are counted, and an interval after it
pub next_fits : (now span : ℕ) → now ≤ last_moment → is_interval span ≡ true → now + span < 2 ^ 64
next_fits now span last h = grind (arith, nat_tests)

module _ (s : State) where
  -- a row that is found has an interval
  pub found_interval : (pool : List ℕ) (scale : ScaleRow) → RowsAreValid s → scale_of s pool ≡ Some scale → is_interval scale.interval ≡ true
  found_interval pool scale rows found =
      and_second (is_formula_text scale.formula) (is_interval scale.interval) (each_found is_scale_in_range (is_scale pool) scale s.scales found rows.scales)

  -- the pool has its id after the evaluation
  pub same_id : (pool : PoolRow) (given : Option (Targets × Dealloc)) → (pool_after s pool given).id ≡ pool.id
  same_id pool None = refl
  same_id pool (Some given) = by_count (nat_eq (staying_count s pool.id) given.0.dedicated)
    where
      by_count : (b : Bool) → (cond b (retargeted_to given pool) (resizing_from s.moment pool.usual_timeout (retargeted_to given pool))).id ≡ pool.id
      by_count true = refl
      by_count false = refl

  -- the puts of both rows lead to the tables after the evaluation
  pub scaled : (pool : PoolRow) (scale : ScaleRow) (text : List ℕ) (given : Option (Targets × Dealloc)) → KeysAreDistinct s → pool_of s pool.id ≡ Some pool
      → scale_of s pool.id ≡ Some scale
      → apply_changes (PutScale (evaluated_now s.moment text scale) ∷ PutPool (pool_after s pool given) ∷ []) s ≡ (scaled_after s pool scale text given).state
  scaled pool scale text given keys there found =
      ap (apply_change (PutPool (pool_after s pool given))) (scale_changed pool.id scale (evaluated_now s.moment text scale) s keys found refl)
      ∙ pool_put_after pool (pool_after s pool given) s (put_scale (evaluated_now s.moment text scale) s).scales keys there (same_id pool given)
