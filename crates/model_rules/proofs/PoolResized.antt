-- The rule that ends the resize of a pool keeps sound tables, and lowers the rank.
use Rattle.std.proofs.Common.{◌≡◌, ℕ, Bool, true, false, not, ◌&&◌, ◌||◌, Option, Some, find, refl, cond, arith, subst}
use Rattle.std.specs.List.{find}
use Rattle.bt_base.proofs.Turns.{lex_lt, lex_first, lex_next}
use Rattle.bt_rows.specs.Keys.{same_pool, same_pool_equiv}
use Rattle.bt_rows.specs.declared.due.Due.TheVariants.{PoolResized}
use Rattle.bt_rows.specs.declared.due.ResizeEnd.{ResizeEnd}
use Rattle.bt_rows.specs.declared.due.ResizeEnd.TheVariants.{Reached, TimedOut, Stopped}
use Rattle.bt_rows.proofs.DistinctRows.{found_first}
use Rattle.batch_model.specs.Rows.{put_pool}
use Rattle.batch_model.specs.Pools.{is_resizing, is_stopping, is_steady}
use Rattle.batch_model.specs.Dues.{is_gone, pool_dropped, has_reached, pool_steady, has_timed_out, pool_timed_out, is_to_stop, pool_stopped, ends_resize}
use Rattle.batch_model.specs.Dues.{resize_ended, end_resize}
use Rattle.batch_model.specs.Scaling.{is_to_sample, is_to_scale}
use Rattle.batch_model.specs.Measure.{one_unless, steps_of_pool, rank}
use Rattle.batch_model.specs.Sound.{IsSound}
use Rattle.batch_model.specs.Steps.{DueStep}
use Rattle.batch_model.specs.WellFormed.{is_pool_valid}
use Rattle.batch_model.specs.Variants.{State, PoolRow, Alloc, Steady, Resizing, Stopping, ResizeError, AllocationTimedOut, ResizeStopped}
use Rattle.model_lists.proofs.Tests.{and_first, and_second, or_first}
use Rattle.model_lists.proofs.RowLists.{each_found, find_test}
use Rattle.model_lists.proofs.KeyedLists.{sum_by-put_row}
use Rattle.model_tables.proofs.PoolPut.{sound_pool_put}
use Rattle.model_rules.proofs.NodeCounts.{one_if}
use Rattle.model_rules.proofs.PoolDropped.{resizing_counts, pool_dropped_kept}
use Rattle.model_rules.proofs.Rules.{IsDueKept, from_map}

-- a pool counts whose resize is being stopped
stopping_counts : (alloc : Alloc) → is_stopping alloc ≡ true → one_unless (is_steady alloc) ≡ 1
stopping_counts Steady h = cc
stopping_counts Resizing h = cc
stopping_counts Stopping h = refl

-- the pool at rest, with such an error
abbrev at_rest : Option ResizeError → PoolRow → PoolRow
at_rest why pool = record pool { alloc = Steady; error = why }

module _ (seats : ℕ) (s : State) (h : IsSound seats s) (pool : PoolRow) (found : find (ends_resize s) s.pools ≡ Some pool) where
  -- a pool less is to become steady
  rest_falls : (why : Option ResizeError) → one_unless (is_steady pool.alloc) ≡ 1 → lex_lt (rank (put_pool (at_rest why pool) s)) (rank s) ≡ true
  rest_falls why counts =
      let first = found_first same_pool same_pool_equiv (ends_resize s) pool s.pools h.consistent.keys.pools found in
      let total = sum_by-put_row same_pool same_pool_equiv pool s.pools h.consistent.keys.pools first (steps_of_pool s) (at_rest why pool) (λ x. refl) in
      let sampled =
      sum_by-put_row same_pool same_pool_equiv pool s.pools h.consistent.keys.pools first (λ other. one_if (is_to_sample s other)) (at_rest why pool) (λ x. refl)
      in
      let scaled =
      sum_by-put_row same_pool same_pool_equiv pool s.pools h.consistent.keys.pools first (λ other. one_if (is_to_scale s other)) (at_rest why pool) (λ x. refl)
      in
      lex_next _ _ _ _ (omega (arith, sampled, scaled)) (lex_next _ _ _ _ (omega arith) (lex_first _ _ _ _ (omega (arith, total, counts)) refl))

  -- a pool that is not being deleted is steady
  rest_kept : (end : ResizeEnd) (why : Option ResizeError) → not pool.deleting ≡ true → one_unless (is_steady pool.alloc) ≡ 1
      → IsDueKept seats s (record { due = PoolResized pool.id end; state = put_pool (at_rest why pool) s })
  rest_kept end why stays counts = record {
    sound =
        sound_pool_put s (at_rest why pool) pool (ends_resize s) found refl seats refl refl
        (each_found (is_pool_valid s.moment) (ends_resize s) pool s.pools found h.limited.rows.pools) (or_first _ stays) h;
    falls = rest_falls why counts;
    places = tt;
    ends = tt;
    releases = tt;
  }

  -- it has as many nodes as its target
  reached_kept : has_reached s pool ≡ true → IsDueKept seats s (pool_steady s pool)
  reached_kept e =
      let resizes : (not pool.deleting && is_resizing pool.alloc) ≡ true = and_first _ _ (and_first _ _ e) in
      rest_kept Reached pool.error (and_first _ _ resizes) (resizing_counts pool.alloc (and_second _ _ resizes))

  -- its timeout is over
  timed_out_kept : has_timed_out s pool ≡ true → IsDueKept seats s (pool_timed_out s pool)
  timed_out_kept e =
      let resizes : (not pool.deleting && is_resizing pool.alloc) ≡ true = and_first _ _ e in
      rest_kept TimedOut (Some AllocationTimedOut) (and_first _ _ resizes) (resizing_counts pool.alloc (and_second _ _ resizes))

  -- its resize was stopped
  stopped_kept : is_to_stop pool ≡ true → IsDueKept seats s (pool_stopped s pool)
  stopped_kept e = rest_kept Stopped (Some ResizeStopped) (and_first _ _ e) (stopping_counts pool.alloc (and_second _ _ e))

  -- the first of these that there is
  first_kept : (gone reached timed_out : Bool) → is_gone s pool ≡ gone → has_reached s pool ≡ reached → has_timed_out s pool ≡ timed_out
      → (gone || reached || timed_out || is_to_stop pool) ≡ true
      → IsDueKept seats s
      (cond gone (pool_dropped s pool) (cond reached (pool_steady s pool) (cond timed_out (pool_timed_out s pool) (pool_stopped s pool))))
  first_kept true reached timed_out e f g k = pool_dropped_kept s pool (ends_resize s) found e seats h
  first_kept false true timed_out e f g k = reached_kept f
  first_kept false false true e f g k = timed_out_kept g
  first_kept false false false e f g k = stopped_kept k

-- U11
pub end_resize_kept : (seats : ℕ) (s : State) → IsSound seats s → (step : DueStep) → end_resize s ≡ Some step → IsDueKept seats s step
end_resize_kept seats s h step e =
    let found = from_map (resize_ended s) (find (ends_resize s) s.pools) step e in
    subst (IsDueKept seats s) found.1
    (first_kept seats s h found.0 found.2 (is_gone s found.0) (has_reached s found.0) (has_timed_out s found.0) refl refl refl
    (find_test (ends_resize s) found.0 s.pools found.2))
