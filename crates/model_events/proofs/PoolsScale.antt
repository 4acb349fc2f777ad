-- The events `enable-autoscale`, `disable-autoscale`, `evaluate-autoscale` and `sample` keep sound tables.
use Rattle.std.proofs.Common.{◌≡◌, ℕ, ℤ, Bool, true, false, not, ◌&&◌, ◌||◌, nat_lt, nat_le, List, Option, Some, None, unwrap_or, refl, ◌∙◌, arith}
use Rattle.std.specs.Option.{option_and_then}
use Rattle.std.proofs.lemmas.Bool.Decides.{nat_tests}
use Rattle.bt_base.proofs.SameIds.{same_equiv}
use Rattle.bt_rows.specs.Keys.{same_pool, same_pool_equiv}
use Rattle.bt_rows.specs.declared.event.ScaleSpec.{ScaleSpec}
use Rattle.bt_rows.specs.declared.refusal.Refusal.TheVariants.{PoolBeingDeleted, SampleTooOld}
use Rattle.bt_rows.specs.Ranges.{passes_if_some, is_formula_text, is_interval, is_percentage, is_scale_spec_in_range}
use Rattle.batch_model.specs.Finding.{Each, at_row}
use Rattle.batch_model.specs.Rows.{is_pool, pool_of}
use Rattle.batch_model.specs.Samples.{label_of, newest_label, sample_refusal, new_sample, add_sample}
use Rattle.batch_model.specs.Scaling.{is_scale, scale_of, put_scale, add_scale_row, drop_scale, usual_interval, new_scale, rescaled, scaled_by, enabled_now}
use Rattle.batch_model.specs.Scaling.{autoscale_enabled, enable_autoscale_refusals, enable_autoscale, scaling_refusals, disable_autoscale, formula_shown}
use Rattle.batch_model.specs.Scaling.{evaluate_refusals, evaluate_autoscale, sample_refusals, sample_pool}
use Rattle.batch_model.specs.Sound.{IsSound}
use Rattle.batch_model.specs.WellFormed.{has_pool_row, is_past_if_some, is_pool_in_range, is_pool_valid, is_scale_in_range}
use Rattle.batch_model.specs.Variants.{State, PoolRow, CpuPercent, ScaleRow}
use Rattle.model_lists.proofs.Tests.{and_true, and_first, and_second, or_first, true_not}
use Rattle.model_lists.proofs.RowLists.{each_found, each_weaker, any_found, find_none, find_test, find_agree}
use Rattle.model_lists.proofs.DistinctLists.{each_with_key}
use Rattle.model_lists.proofs.NextNumbers.{is_not_after_itself}
use Rattle.model_tables.proofs.PoolPut.{sound_pool_put}
use Rattle.model_tables.proofs.SamplesAdded.{label_past, label_whole, sound_sample_added}
use Rattle.model_tables.proofs.ScalesDropped.{sound_scale_dropped}
use Rattle.model_tables.proofs.ScalesPut.{is_deleted, sound_scale_put, sound_scale_added}
use Rattle.model_events.proofs.Keeping.{passed, given_keeps, answer_keeps, given_passes}

module _ (seats : ℕ) (s : State) (id : List ℕ) (pool : PoolRow) (found : pool_of s id ≡ Some pool) (h : IsSound seats s) where
  -- the pool is there
  has_row : has_pool_row s pool.id ≡ true
  has_row = any_found (is_pool pool.id) (is_pool id) pool s.pools found (same_pool_equiv.refl pool)

  -- no pool with its id is being deleted, if it is not
  none_deleted : pool.deleting ≡ false → Each (λ other. not (is_deleted pool.id other)) s.pools
  none_deleted live =
      each_weaker (λ other. not (same_pool other pool) || not other.deleting) (λ other. not (is_deleted pool.id other))
      (λ other. neither (same_pool other pool) other.deleting) s.pools
      (each_with_key same_pool same_pool_equiv (λ other. not other.deleting) pool pool s.pools h.consistent.keys.pools
      (find_agree (is_pool pool.id) (is_pool id) same_test s.pools ∙ found) (true_not live))
    where
      neither : (here deleting : Bool) → (not here || not deleting) ≡ true → not (here && deleting) ≡ true
      neither false deleting k = refl
      neither true deleting k = k

      same_test : (other : PoolRow) → is_pool pool.id other ≡ is_pool id other
      same_test other =
          same_equiv.symm other.id pool.id
          ∙ same_equiv.congr pool.id id other.id (find_test (is_pool id) pool s.pools found)
          ∙ same_equiv.symm id other.id

  -- how a pool scales

  -- the given parts and the ones that are there
  given_in_range : (spec : ScaleSpec) → is_scale_spec_in_range spec ≡ true → (old : ScaleRow) → is_scale_in_range old ≡ true
      → is_scale_in_range (rescaled s.moment spec old) ≡ true
  given_in_range spec range old k =
      and_true (given_passes is_formula_text spec.formula old.formula (and_first _ _ range) (and_first _ _ k))
      (given_passes is_interval spec.interval old.interval (and_second _ _ range) (and_second _ _ k))

  -- the tables with the row of the pool
  sound_scaled : (spec : ScaleSpec) → is_scale_spec_in_range spec ≡ true → pool.deleting ≡ false → IsSound seats (scaled_by spec pool.id (scale_of s pool.id) s)
  sound_scaled spec range live = by_row (scale_of s pool.id) refl
    where
      by_formula : (formula : Option (List ℕ)) → passes_if_some is_formula_text formula ≡ true → scale_of s pool.id ≡ None
          → IsSound seats (at_row (λ text. add_scale_row (new_scale s.moment pool.id text (unwrap_or spec.interval usual_interval))) formula s)
      by_formula None k none = h
      by_formula (Some text) k none =
          sound_scale_added s (new_scale s.moment pool.id text (unwrap_or spec.interval usual_interval)) seats
          (and_true k (given_passes is_interval spec.interval usual_interval (and_second _ _ range) refl)) has_row
          (find_none (is_scale pool.id) s.scales none) (none_deleted live) h

      by_row : (row : Option ScaleRow) → scale_of s pool.id ≡ row → IsSound seats (scaled_by spec pool.id row s)
      by_row None e = by_formula spec.formula (and_first _ _ range) e
      by_row (Some old) e =
          sound_scale_put s (rescaled s.moment spec old) seats
          (given_in_range spec range old (each_found is_scale_in_range (is_scale pool.id) old s.scales e h.limited.rows.scales)) h

  -- a part of the tables that rows of how pools scale do not change
  same_part : {A : Type 0} (part : State → A) → ((scale : ScaleRow) → part (put_scale scale s) ≡ part s) → ((scale : ScaleRow) → part (add_scale_row scale s) ≡ part s)
      → (spec : ScaleSpec) → part (scaled_by spec pool.id (scale_of s pool.id) s) ≡ part s
  same_part part put added spec = by_row (scale_of s pool.id)
    where
      by_formula : (formula : Option (List ℕ))
          → part (at_row (λ text. add_scale_row (new_scale s.moment pool.id text (unwrap_or spec.interval usual_interval))) formula s) ≡ part s
      by_formula None = refl
      by_formula (Some text) = added (new_scale s.moment pool.id text (unwrap_or spec.interval usual_interval))

      by_row : (row : Option ScaleRow) → part (scaled_by spec pool.id row s) ≡ part s
      by_row None = by_formula spec.formula
      by_row (Some old) = put (rescaled s.moment spec old)

  -- the pool is valid with the moment at which it was enabled
  enabled_valid : is_pool_valid s.moment (enabled_now s.moment pool) ≡ true
  enabled_valid =
      let valid : is_pool_valid s.moment pool ≡ true = each_found (is_pool_valid s.moment) (is_pool id) pool s.pools found h.limited.rows.pools in
      and_true (and_first (is_pool_in_range pool) _ valid)
      (and_true (and_first _ (is_past_if_some s.moment pool.enabled) (and_second (is_pool_in_range pool) _ valid)) (is_not_after_itself s.moment))

  -- `enable-autoscale`
  pub enable_autoscale_kept : (spec : ScaleSpec) → is_scale_spec_in_range spec ≡ true → IsSound seats (enable_autoscale s spec pool).state
  enable_autoscale_kept spec range =
      answer_keeps (IsSound seats) s h (enable_autoscale_refusals s spec pool) 200 (autoscale_enabled s spec pool)
      (λ absent. enabled (passed pool.deleting PoolBeingDeleted absent.0))
    where
      enabled : pool.deleting ≡ false → IsSound seats (autoscale_enabled s spec pool)
      enabled live =
          let after : State = scaled_by spec pool.id (scale_of s pool.id) s in
          let pools : after.pools ≡ s.pools = same_part (λ (tables : State). tables.pools) (λ scale. refl) (λ scale. refl) spec in
          let moment : after.moment ≡ s.moment = same_part (λ (tables : State). tables.moment) (λ scale. refl) (λ scale. refl) spec in
          sound_pool_put after (enabled_now s.moment pool) pool (is_pool id) (rw pools found) refl seats refl refl (rw moment enabled_valid)
          (or_first _ (true_not live)) (sound_scaled spec range live)

  -- `disable-autoscale`
  pub disable_autoscale_kept : IsSound seats (disable_autoscale s pool).state
  disable_autoscale_kept =
      answer_keeps (IsSound seats) s h (scaling_refusals s pool) 200 (drop_scale pool.id s) (λ absent. sound_scale_dropped pool.id s seats h)

  -- `evaluate-autoscale`
  pub evaluate_autoscale_kept : (text : List ℕ) → IsSound seats (evaluate_autoscale s text pool).state
  evaluate_autoscale_kept text = given_keeps (IsSound seats) s h (formula_shown s text pool) (evaluate_refusals s text pool) (λ absent. h)

  -- `sample`
  pub sample_pool_kept : (percentage : ℤ) → is_percentage percentage ≡ true → IsSound seats (sample_pool s percentage pool).state
  sample_pool_kept percentage range =
      answer_keeps (IsSound seats) s h (sample_refusals s pool) 200 (add_sample (new_sample s pool.id CpuPercent percentage) s)
      (λ absent.
      sound_sample_added seats (new_sample s pool.id CpuPercent percentage) s has_row (and_true range (label_past s.moment)) (label_whole s.moment)
      (newer (newest_label s pool.id CpuPercent) absent.0) refl h)
    where
      above : (label now : ℕ) → nat_le now label ≡ false → nat_lt label now ≡ true
      above label now e = grind (arith, nat_tests)

      newer : (newest : Option ℕ) → option_and_then (sample_refusal (label_of s.moment)) newest ≡ None
          → passes_if_some (λ label. nat_lt label (label_of s.moment)) newest ≡ true
      newer None e = refl
      newer (Some label) e = above label (label_of s.moment) (passed (nat_le (label_of s.moment) label) (SampleTooOld label) e)
