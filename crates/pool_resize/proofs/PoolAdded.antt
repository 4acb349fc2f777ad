-- The puts of a new pool, and of how it scales, lead to the tables with both.
use Rattle.std.proofs.Common.{◌≡◌, ℕ, false, true, not, List, [], ◌∷◌, inl, inr, is_some, sym, ◌∙◌, ap}
use Rattle.bt_base.specs.Ids.{same}
use Rattle.bt_base.proofs.SameIds.{same_equiv}
use Rattle.bt_rows.specs.Changes.{apply_change, apply_changes}
use Rattle.bt_rows.specs.declared.tables.Change.TheVariants.{PutPool, PutScale}
use Rattle.batch_model.specs.Finding.{Each}
use Rattle.batch_model.specs.Rows.{add_pool_row, is_pool, pool_of}
use Rattle.batch_model.specs.Scaling.{add_scale_row, is_scale}
use Rattle.batch_model.specs.WellFormed.{has_pool_row, scales}
use Rattle.batch_model.specs.Variants.{State, PoolRow, ScaleRow}
use Rattle.model_lists.proofs.RowLists.{any_agree, each_weaker, none_any, none_found}
use Rattle.model_lists.proofs.Tests.{passes_or_not, true_not}
use Rattle.machine_plans.proofs.EventPuts.{pool_put}
use Rattle.pool_scaling.proofs.ScalePuts.{scale_added}

module _ (s : State) (pool : List ℕ) (new : has_pool_row s pool ≡ false) where
  -- an id that a pool has is another
  is_other : (id : List ℕ) → has_pool_row s id ≡ true → same id pool ≡ true → false ≡ true
  is_other id there e =
      sym new
      ∙ any_agree (is_pool pool) (is_pool id)
      (λ row. same_equiv.symm row.id pool ∙ sym (same_equiv.congr id pool row.id e) ∙ same_equiv.symm id row.id) s.pools
      ∙ there

  -- no row says how a pool scales that is not there
  none_scales : Each (λ (scale : ScaleRow). has_pool_row s scale.pool) s.scales → scales s pool ≡ false
  none_scales there =
      none_any (is_scale pool) s.scales
      (each_weaker (λ (scale : ScaleRow). has_pool_row s scale.pool) (λ scale. not (is_scale pool scale)) apart s.scales there)
    where
      apart : (scale : ScaleRow) → has_pool_row s scale.pool ≡ true → not (is_scale pool scale) ≡ true
      apart scale row = elim (passes_or_not (is_scale pool scale)) [
        | inl e ↦ let f : false ≡ true = is_other scale.pool row e in cc
        | inr e ↦ true_not e
      ]

pub scaling_pool_added : (pool : PoolRow) (scale : ScaleRow) (s : State) → is_some (pool_of s pool.id) ≡ false → scale.pool ≡ pool.id
    → Each (λ (scale : ScaleRow). has_pool_row s scale.pool) s.scales → apply_changes (PutPool pool ∷ PutScale scale ∷ []) s ≡ add_scale_row scale (add_pool_row pool s)
scaling_pool_added pool scale s new named there =
    ap (apply_change (PutScale scale)) (pool_put pool s new)
    ∙ scale_added scale (add_pool_row pool s) (rw named (none_scales s pool.id (none_found (is_pool pool.id) s.pools new) there))
