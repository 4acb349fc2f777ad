-- The events `resize`, `stop-resize` and `delete-pool` keep sound tables.
use Rattle.std.proofs.Common.{◌≡◌, ℕ, Bool, true, false, ◌&&◌, nat_eq, nat_le, List, Some, refl, ◌∙◌, unwrap_or}
use Rattle.std.specs.Cmp.{nat_eq_equiv}
use Rattle.bt_rows.specs.declared.event.ResizeSpec.{ResizeSpec}
use Rattle.bt_rows.specs.declared.refusal.Refusal.TheVariants.{PoolBeingDeleted}
use Rattle.bt_rows.specs.Ranges.{passes_if_some, is_target, is_slot_count, is_resize_timeout, is_start_in_range, is_resize_spec_in_range}
use Rattle.batch_model.specs.Rows.{is_pool, pool_of, put_pool}
use Rattle.batch_model.specs.PoolEvents.{resized_pool, resize_refusals, resize_pool, stopping, stop_resize_refusals, stop_resize}
use Rattle.batch_model.specs.PoolEvents.{deleted_pool, is_leaving_from, pool_deleted, delete_pool_refusals, delete_pool}
use Rattle.batch_model.specs.Scaling.{drop_scale}
use Rattle.batch_model.specs.Sound.{IsSound}
use Rattle.batch_model.specs.WellFormed.{is_past_if_some, is_pool_valid, is_deleting_whole}
use Rattle.batch_model.specs.Variants.{State, PoolRow, ByRequeue}
use Rattle.model_lists.proofs.Tests.{and_first, and_second, or_first, true_not}
use Rattle.model_lists.proofs.RowLists.{each_found}
use Rattle.model_lists.proofs.NextNumbers.{is_not_after_itself}
use Rattle.model_tables.proofs.PoolPut.{sound_pool_put}
use Rattle.model_tables.proofs.ScalesDropped.{scale_gone, sound_scale_dropped}
use Rattle.model_tables.proofs.NodesLeave.{sound_left}
use Rattle.model_events.proofs.Keeping.{passed, answer_keeps, given_passes}

-- tests of a pool's values, of which those of its targets, its timeout and the beginning of its resize are new
new_targets : (slots target low usual timeout start began enabled new_target new_low new_timeout new_began : Bool) → new_target ≡ true → new_low ≡ true
    → new_timeout ≡ true → new_began ≡ true → ((slots && target && low && usual && timeout && start) && (began && enabled)) ≡ true
    → ((slots && new_target && new_low && usual && new_timeout && start) && (new_began && enabled)) ≡ true
new_targets true true true true true true true enabled new_target new_low new_timeout new_began a b c d h = rw (a, b, c, d) h
new_targets true true true true true true false enabled new_target new_low new_timeout new_began a b c d h = cc
new_targets true true true true true false began enabled new_target new_low new_timeout new_began a b c d h = cc
new_targets true true true true false start began enabled new_target new_low new_timeout new_began a b c d h = cc
new_targets true true true false timeout start began enabled new_target new_low new_timeout new_began a b c d h = cc
new_targets true true false usual timeout start began enabled new_target new_low new_timeout new_began a b c d h = cc
new_targets true false low usual timeout start began enabled new_target new_low new_timeout new_began a b c d h = cc
new_targets false target low usual timeout start began enabled new_target new_low new_timeout new_began a b c d h = cc

module _ (seats : ℕ) (s : State) (id : List ℕ) (pool : PoolRow) (found : pool_of s id ≡ Some pool) (h : IsSound seats s) where
  -- the pool is valid
  pool_valid : is_pool_valid s.moment pool ≡ true
  pool_valid = each_found (is_pool_valid s.moment) (is_pool id) pool s.pools found h.limited.rows.pools

  -- its targets are in their ranges
  targets_in_range : (is_slot_count pool.slots && is_target pool.dedicated && nat_eq pool.low 0) ≡ true
  targets_in_range = and_first _ _ (and_first _ _ (and_first _ _ (and_first _ _ pool_valid)))

  -- it is valid with other targets, within another time
  targets_valid : (target low timeout began : ℕ) → is_target target ≡ true → nat_eq low 0 ≡ true → is_resize_timeout timeout ≡ true
      → nat_le began s.moment ≡ true
      → is_pool_valid s.moment (record pool { dedicated = target; low = low; timeout = timeout; began = began }) ≡ true
  targets_valid target low timeout began a b c d =
      new_targets (is_slot_count pool.slots) (is_target pool.dedicated) (nat_eq pool.low 0) (is_resize_timeout pool.usual_timeout)
      (is_resize_timeout pool.timeout) (passes_if_some is_start_in_range pool.start) (nat_le pool.began s.moment) (is_past_if_some s.moment pool.enabled)
      (is_target target) (nat_eq low 0) (is_resize_timeout timeout) (nat_le began s.moment) a b c d pool_valid

  -- `resize`
  pub resize_pool_kept : (spec : ResizeSpec) → is_resize_spec_in_range spec ≡ true → IsSound seats (resize_pool s spec pool).state
  resize_pool_kept spec in_range =
      answer_keeps (IsSound seats) s h (resize_refusals s pool) 202 (put_pool (resized_pool s.moment spec pool) s)
      (λ absent.
      sound_pool_put s (resized_pool s.moment spec pool) pool (is_pool id) found refl seats refl refl resized_valid
      (or_first _ (true_not (passed pool.deleting PoolBeingDeleted absent.0))) h)
    where
      resized_valid : is_pool_valid s.moment (resized_pool s.moment spec pool) ≡ true
      resized_valid =
          let range : (passes_if_some is_target spec.dedicated && passes_if_some (nat_eq 0) spec.low && is_resize_timeout spec.timeout) ≡ true =
          and_first _ _ in_range
          in
          let targets : (passes_if_some is_target spec.dedicated && passes_if_some (nat_eq 0) spec.low) ≡ true =
          and_first _ (is_resize_timeout spec.timeout) range
          in
          let target : is_target pool.dedicated ≡ true = and_second (is_slot_count pool.slots) _ (and_first _ (nat_eq pool.low 0) targets_in_range) in
          let low : nat_eq pool.low 0 ≡ true = and_second _ (nat_eq pool.low 0) targets_in_range in
          targets_valid (unwrap_or spec.dedicated pool.dedicated) (unwrap_or spec.low pool.low) spec.timeout s.moment
          (given_passes is_target spec.dedicated pool.dedicated (and_first _ (passes_if_some (nat_eq 0) spec.low) targets) target)
          (nat_eq_equiv.symm (unwrap_or spec.low pool.low) 0
          ∙ given_passes (nat_eq 0) spec.low pool.low (and_second (passes_if_some is_target spec.dedicated) _ targets)
          (nat_eq_equiv.symm 0 pool.low ∙ low))
          (and_second _ (is_resize_timeout spec.timeout) range) (is_not_after_itself s.moment)

  -- `stop-resize`
  pub stop_resize_kept : IsSound seats (stop_resize s pool).state
  stop_resize_kept =
      answer_keeps (IsSound seats) s h (stop_resize_refusals pool) 202 (put_pool (stopping pool) s)
      (λ absent.
      sound_pool_put s (stopping pool) pool (is_pool id) found refl seats refl refl pool_valid
      (or_first _ (true_not (passed pool.deleting PoolBeingDeleted absent.0))) h)

  -- being deleted, the pool does not scale, and its nodes that are leaving leave by requeue
  sound_pool_deleted : IsSound seats (pool_deleted s pool)
  sound_pool_deleted =
      let whole : is_deleting_whole (drop_scale pool.id s) (deleted_pool pool) ≡ true = true_not (scale_gone pool.id s) in
      let valid : is_pool_valid s.moment (deleted_pool pool) ≡ true =
      targets_valid 0 0 pool.timeout pool.began refl refl (and_second _ _ (and_first _ _ (and_first _ _ pool_valid)))
      (and_first _ _ (and_second _ _ pool_valid))
      in
      let sound : IsSound seats (drop_scale pool.id (put_pool (deleted_pool pool) s)) =
      sound_pool_put (drop_scale pool.id s) (deleted_pool pool) pool (is_pool id) found refl seats refl refl valid whole (sound_scale_dropped pool.id s seats h)
      in
      sound_left seats ByRequeue (is_leaving_from pool.id) (drop_scale pool.id (put_pool (deleted_pool pool) s)) sound

  -- `delete-pool`
  pub delete_pool_kept : IsSound seats (delete_pool s pool).state
  delete_pool_kept = answer_keeps (IsSound seats) s h (delete_pool_refusals pool) 202 (pool_deleted s pool) (λ absent. sound_pool_deleted)
