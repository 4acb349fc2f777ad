-- Tables after automatic scaling is enabled, and what `enable-autoscale` answers by its refusals.
use Rattle.std.proofs.Common.{◌≡◌, ℕ, Bool, true, false, ◌∷◌, [], List, Option, Some, None, Err, is_some, is_none, not, ◌&&◌, unwrap_or, refl, sym, ◌∙◌, ap}
use Rattle.std.specs.Option.{option_and_then}
use Rattle.bt_base.specs.declared.fail.Fail.{Fail}
use Rattle.bt_base.specs.declared.fail.Fail.TheVariants.{Memory, Why}
use Rattle.bt_rows.specs.Changes.{apply_change, apply_changes}
use Rattle.bt_rows.specs.declared.event.ScaleSpec.{ScaleSpec}
use Rattle.bt_rows.specs.declared.refusal.Refusal.{Refusal}
use Rattle.bt_rows.specs.declared.refusal.Refusal.TheVariants.{PoolBeingDeleted, PoolBeingResized, PoolDoesNotScale}
use Rattle.bt_rows.specs.declared.tables.Change.TheVariants.{PutPool, PutScale}
use Rattle.batch_model.specs.Answers.{accept, answer, refuse}
use Rattle.batch_model.specs.Formulas.{formula_refusal}
use Rattle.batch_model.specs.Pools.{is_steady}
use Rattle.batch_model.specs.Rows.{pool_of, put_pool}
use Rattle.batch_model.specs.Scaling.{autoscale_enabled, enable_autoscale, enabled_now, lacks_formula, new_scale, rescaled, scale_of, scaled_by, too_soon, usual_interval}
use Rattle.batch_model.specs.Steps.{refuse_if}
use Rattle.batch_model.specs.WellFormed.{KeysAreDistinct, scales}
use Rattle.batch_model.specs.Variants.{State, PoolRow, ScaleRow}
use Rattle.machine_plans.specs.Plans.{IsAnswer, with_moment}
use Rattle.pool_scaling.specs.Evaluations.{IsChecked}
use Rattle.pool_scaling.specs.Rows.{IsGivenRow, given_row}
use Rattle.pool_scaling.proofs.ScalePuts.{pool_put_after, scale_added, scale_changed, scales_by_row}

module _ (spec : ScaleSpec) (pool : PoolRow) (s : State) where
  -- the row that is given leads to the tables in which the pool scales by it
  scale_put : (row : ScaleRow) → KeysAreDistinct s → given_row s.moment spec pool.id (scale_of s pool.id) ≡ Some row
      → apply_change (PutScale row) s ≡ scaled_by spec pool.id (scale_of s pool.id) s
  scale_put row keys given = by_row (scale_of s pool.id) refl given
    where
      by_given : scale_of s pool.id ≡ None → (formula : Option (List ℕ)) → given_row s.moment (record spec { formula = formula }) pool.id None ≡ Some row
          → apply_change (PutScale row) s ≡ scaled_by (record spec { formula = formula }) pool.id None s
      by_given e None g = cc
      by_given e (Some formula) g =
          let is : row ≡ new_scale s.moment pool.id formula (unwrap_or spec.interval usual_interval) = cc in
          let none : scales s pool.id ≡ false = sym (scales_by_row s pool.id) ∙ ap is_some e in
          rw is (scale_added (new_scale s.moment pool.id formula (unwrap_or spec.interval usual_interval)) s none)

      by_row : (found : Option ScaleRow) → scale_of s pool.id ≡ found → given_row s.moment spec pool.id found ≡ Some row
          → apply_change (PutScale row) s ≡ scaled_by spec pool.id found s
      by_row None e g = by_given e spec.formula g
      by_row (Some old) e g =
          let is : row ≡ rescaled s.moment spec old = cc in rw is (scale_changed pool.id old (rescaled s.moment spec old) s keys e refl)

  -- a pool that scales by any of these has other rows of scaling alone
  scales_alone : (found : Option ScaleRow) → (rows : List ScaleRow) × (scaled_by spec pool.id found s ≡ record s { scales = rows })
  scales_alone (Some old) = ((scaled_by spec pool.id (Some old) s).scales, refl)
  scales_alone None = by_given spec.formula
    where
      by_given : (formula : Option (List ℕ)) → (rows : List ScaleRow) × (scaled_by (record spec { formula = formula }) pool.id None s ≡ record s { scales = rows })
      by_given None = (s.scales, refl)
      by_given (Some formula) = ((scaled_by (record spec { formula = Some formula }) pool.id None s).scales, refl)

  pub enabled : (row : ScaleRow) → KeysAreDistinct s → pool_of s pool.id ≡ Some pool → given_row s.moment spec pool.id (scale_of s pool.id) ≡ Some row
      → apply_changes (PutScale row ∷ PutPool (enabled_now s.moment pool) ∷ []) s ≡ autoscale_enabled s spec pool
  enabled row keys there given =
      let alone : (rows : List ScaleRow) × (scaled_by spec pool.id (scale_of s pool.id) s ≡ record s { scales = rows }) = scales_alone (scale_of s pool.id) in
      ap (apply_change (PutPool (enabled_now s.moment pool))) (scale_put row keys given ∙ alone.1)
      ∙ pool_put_after pool (enabled_now s.moment pool) s alone.0 keys there refl
      ∙ sym (ap (put_pool (enabled_now s.moment pool)) alone.1)

  -- a formula lacks exactly if there is no row
  row_if_formula : (row : ScaleRow) → given_row s.moment spec pool.id (scale_of s pool.id) ≡ Some row → lacks_formula s spec pool ≡ false
  row_if_formula row given = ap (λ b. is_none spec.formula && not b) (sym (scales_by_row s pool.id)) ∙ by_row (scale_of s pool.id) spec.formula given
    where
      by_row : (found : Option ScaleRow) (formula : Option (List ℕ)) → given_row s.moment (record spec { formula = formula }) pool.id found ≡ Some row
          → (is_none formula && not (is_some found)) ≡ false
      by_row (Some old) None g = refl
      by_row (Some old) (Some formula) g = refl
      by_row None None g = cc
      by_row None (Some formula) g = refl

  none_if_lacking : given_row s.moment spec pool.id (scale_of s pool.id) ≡ None → lacks_formula s spec pool ≡ true
  none_if_lacking given = ap (λ b. is_none spec.formula && not b) (sym (scales_by_row s pool.id)) ∙ by_row (scale_of s pool.id) spec.formula given
    where
      by_row : (found : Option ScaleRow) (formula : Option (List ℕ)) → given_row s.moment (record spec { formula = formula }) pool.id found ≡ None
          → (is_none formula && not (is_some found)) ≡ true
      by_row (Some old) None g = cc
      by_row (Some old) (Some formula) g = cc
      by_row None None g = refl
      by_row None (Some formula) g = cc

  -- the answer by what refuses
  answered : (deleting steady lacks : Bool) (soon checked : Option Refusal) → pool.deleting ≡ deleting → is_steady pool.alloc ≡ steady
      → option_and_then (too_soon s.moment) pool.enabled ≡ soon → lacks_formula s spec pool ≡ lacks → option_and_then formula_refusal spec.formula ≡ checked
      → enable_autoscale s spec pool
      ≡ answer s
      (refuse_if deleting PoolBeingDeleted
      ∷ refuse_if (not steady) PoolBeingResized
      ∷ soon
      ∷ refuse_if lacks PoolDoesNotScale
      ∷ checked
      ∷ []) 200 (autoscale_enabled s spec pool)
  answered deleting steady lacks soon checked a b c d e = rw (← a, ← b, ← c, ← d, ← e) refl

  module _ (not_deleted : pool.deleting ≡ false) (steady : is_steady pool.alloc ≡ true) (in_time : option_and_then (too_soon s.moment) pool.enabled ≡ None) where
    pub accepted : (row : ScaleRow) → option_and_then formula_refusal spec.formula ≡ None → given_row s.moment spec pool.id (scale_of s pool.id) ≡ Some row
        → enable_autoscale s spec pool ≡ accept 200 (autoscale_enabled s spec pool)
    accepted row checked given = answered false true false None None not_deleted steady in_time (row_if_formula row given) checked

    pub lacking : given_row s.moment spec pool.id (scale_of s pool.id) ≡ None → enable_autoscale s spec pool ≡ refuse PoolDoesNotScale s
    lacking given = answered false true true None (option_and_then formula_refusal spec.formula) not_deleted steady in_time (none_if_lacking given) refl

    -- a formula that is refused is given, so that none lacks
    pub refused : (refusal : Refusal) → option_and_then formula_refusal spec.formula ≡ Some refusal → enable_autoscale s spec pool ≡ refuse refusal s
    refused refusal checked = answered false true false None (Some refusal) not_deleted steady in_time (given spec.formula checked) checked
      where
        given : (formula : Option (List ℕ)) → option_and_then formula_refusal formula ≡ Some refusal → (is_none formula && not (scales s pool.id)) ≡ false
        given None e = cc
        given (Some text) e = refl

-- the same for what is returned, if neither the pool nor the moment refuses
module _ (spec : ScaleSpec) (pool : PoolRow) (now : ℕ) (s : State) (not_deleted : pool.deleting ≡ false) (steady : is_steady pool.alloc ≡ true)
    (in_time : option_and_then (too_soon now) pool.enabled ≡ None) where
  pub refused_by : (fail : Fail Refusal) → IsChecked (option_and_then formula_refusal spec.formula) (Err fail)
      → IsAnswer now (enable_autoscale (with_moment now s) spec pool) s (Err fail)
  refused_by Memory h = tt
  refused_by (Why refusal) h = refused spec pool (with_moment now s) not_deleted steady in_time refusal h

  pub lacking_by : (fail : Fail Refusal) → IsGivenRow (given_row now spec pool.id (scale_of s pool.id)) (Err fail)
      → IsAnswer now (enable_autoscale (with_moment now s) spec pool) s (Err fail)
  lacking_by Memory h = tt
  lacking_by (Why refusal) h = rw h.1 (lacking spec pool (with_moment now s) not_deleted steady in_time h.0)
