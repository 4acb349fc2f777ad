-- Tables stay sound when a row says how a pool scales: in place of the one of its pool, or at the end.
use Rattle.std.proofs.Common.{◌≡◌, ℕ, Bool, true, false, not, ◌&&◌, ◌||◌, nat_eq, List, refl, sym, ◌∙◌}
use Rattle.bt_base.proofs.SameIds.{same_equiv}
use Rattle.bt_rows.specs.Keys.{same_scale}
use Rattle.bt_rows.specs.Lists.{AreDistinct}
use Rattle.batch_model.specs.Finding.{Each}
use Rattle.batch_model.specs.Rows.{is_pool}
use Rattle.batch_model.specs.Pools.{is_resizing}
use Rattle.batch_model.specs.Scaling.{is_scale, put_scale, add_scale_row}
use Rattle.batch_model.specs.Sound.{IsConsistent, IsWithinLimits, IsSound}
use Rattle.batch_model.specs.WellFormed.{has_pool_row, is_scale_in_range, scales, is_deleting_whole}
use Rattle.batch_model.specs.Variants.{State, PoolRow, ScaleRow}
use Rattle.model_lists.proofs.RowLists.{each_append, each_weaker, each_of_two, any_agree, any_append_same}
use Rattle.model_lists.proofs.ChangedRows.{each_change_same, any_change_same}
use Rattle.model_lists.proofs.DistinctLists.{distinct_append, distinct_change}

-- tables with other rows of how pools scale
abbrev with_scales : List ScaleRow → State → State
with_scales rows s = record s { scales = rows }

module _ (s : State) (rows : List ScaleRow) where
  -- the rows fit each other
  consistent_with_scales : (seats : ℕ) → AreDistinct same_scale rows → IsConsistent seats s → IsConsistent seats (with_scales rows s)
  consistent_with_scales seats distinct h = record {
    keys = record {
      pools = h.keys.pools;
      nodes = h.keys.nodes;
      jobs = h.keys.jobs;
      tasks = h.keys.tasks;
      runs = h.keys.runs;
      preps = h.keys.preps;
      samples = h.keys.samples;
      scales = distinct;
    };
    numbers = record {
      begun = h.numbers.begun;
      runs = h.numbers.runs;
      nodes = h.numbers.nodes;
      nodes_of_runs = h.numbers.nodes_of_runs;
      order = h.numbers.order;
    };
    fitting = record { marks = h.fitting.marks; closing = h.fitting.closing; attempts = h.fitting.attempts };
    named = record {
      jobs_of_tasks = h.named.jobs_of_tasks;
      jobs_of_runs = h.named.jobs_of_runs;
      tasks_of_runs = h.named.tasks_of_runs;
      main_runs = h.named.main_runs;
    };
    seated = record {
      distinct = h.seated.distinct;
      in_range = h.seated.in_range;
      few = h.seated.few;
      pools_of_nodes = h.seated.pools_of_nodes;
      nodes_of_runs = h.seated.nodes_of_runs;
    };
    belonging = h.belonging;
    ending = h.ending;
    naming = record { on_nodes = h.naming.on_nodes; of_jobs = h.naming.of_jobs };
    slots = h.slots;
    built = record { runs = h.built.runs };
  }

  -- values stay within the limits
  limited_with_scales : Each is_scale_in_range rows → Each (is_deleting_whole (with_scales rows s)) s.pools
      → Each (λ (scale : ScaleRow). has_pool_row s scale.pool) rows → IsWithinLimits s → IsWithinLimits (with_scales rows s)
  limited_with_scales in_range whole there h = record {
    rows = record {
      moment = h.rows.moment;
      pools = h.rows.pools;
      nodes = h.rows.nodes;
      jobs = h.rows.jobs;
      tasks = h.rows.tasks;
      runs = h.rows.runs;
      samples = h.rows.samples;
      scales = in_range;
    };
    counts = record {
      pools = h.counts.pools;
      jobs = h.counts.jobs;
      tasks = h.counts.tasks;
      first_node = h.counts.first_node;
      next_node = h.counts.next_node;
      first_run = h.counts.first_run;
      next_run = h.counts.next_run;
    };
    quiet = h.quiet;
    pools = record {
      deleting = whole;
      pools_of_scales = there;
      pools_of_samples = h.pools.pools_of_samples;
      labels = h.pools.labels;
      order = h.pools.order;
      covered = h.pools.covered;
      kept = h.pools.kept;
    };
  }

  -- rows of pools that are there, of which none is being deleted
  sound_with_scales : (seats : ℕ) → AreDistinct same_scale rows → Each is_scale_in_range rows → Each (is_deleting_whole (with_scales rows s)) s.pools
      → Each (λ (scale : ScaleRow). has_pool_row s scale.pool) rows → IsSound seats s → IsSound seats (with_scales rows s)
  sound_with_scales seats distinct in_range whole there h = record {
    consistent = consistent_with_scales seats distinct h.consistent;
    limited = limited_with_scales in_range whole there h.limited;
    unended = h.unended;
    starts = record { usable = h.starts.usable; tries = h.starts.tries };
    preparing = record {
      jobs_of_preps = h.preparing.jobs_of_preps;
      nodes_of_preps = h.preparing.nodes_of_preps;
      running = h.preparing.running;
      single = h.preparing.single;
      prepared = h.preparing.prepared;
      released = h.preparing.released;
      tries = h.preparing.tries;
    };
    resting = h.resting;
  }

  -- a pool that is being deleted still resizes to nothing, and does not scale
  still_whole : (row : PoolRow) → (scales s row.id ≡ false → row.deleting ≡ true → scales (with_scales rows s) row.id ≡ false)
      → is_deleting_whole s row ≡ true → is_deleting_whole (with_scales rows s) row ≡ true
  still_whole row =
      still row.deleting (is_resizing row.alloc) (nat_eq row.dedicated 0) (nat_eq row.low 0) (scales s row.id) (scales (with_scales rows s) row.id)
    where
      still : (deleting resizing none few scaling later : Bool) → (scaling ≡ false → deleting ≡ true → later ≡ false)
          → (not deleting || (resizing && none && few && not scaling)) ≡ true → (not deleting || (resizing && none && few && not later)) ≡ true
      still false resizing none few scaling later keep h = refl
      still true false none few scaling later keep h = cc
      still true true false few scaling later keep h = cc
      still true true true false scaling later keep h = cc
      still true true true true true later keep h = cc
      still true true true true false later keep h = rw (keep refl refl) refl

-- the pool has the id, and is being deleted
abbrev pub is_deleted : List ℕ → PoolRow → Bool
is_deleted id pool = is_pool id pool && pool.deleting

module _ (s : State) (scale : ScaleRow) where
  -- the row has the key of the one that it takes the place of
  key_left : (one other : ScaleRow) → is_scale scale.pool one ≡ true → same_scale scale other ≡ same_scale one other
  key_left one other e = sym (same_equiv.congr one.pool scale.pool other.pool e)

  -- the same, on the right
  key_right : (one other : ScaleRow) → is_scale scale.pool other ≡ true → same_scale one scale ≡ same_scale one other
  key_right one other e = same_equiv.symm one.pool scale.pool ∙ key_left other one e ∙ same_equiv.symm other.pool one.pool

  -- the same pools scale
  pub scales_put : (pool : List ℕ) → scales (put_scale scale s) pool ≡ scales s pool
  scales_put pool =
      any_change_same (is_scale scale.pool) (λ (old : ScaleRow). scale) (is_scale pool) (λ one e. key_left one (record scale { pool = pool }) e) s.scales

  -- a valid row in place of the one of its pool
  pub sound_scale_put : (seats : ℕ) → is_scale_in_range scale ≡ true → IsSound seats s → IsSound seats (put_scale scale s)
  sound_scale_put seats in_range h =
      sound_with_scales s (put_scale scale s).scales seats
      (distinct_change (is_scale scale.pool) (λ (old : ScaleRow). scale) same_scale key_left key_right s.scales h.consistent.keys.scales)
      (each_change_same (is_scale scale.pool) (λ (old : ScaleRow). scale) is_scale_in_range (λ one e k. in_range) s.scales h.limited.rows.scales)
      (each_weaker (is_deleting_whole s) (is_deleting_whole (put_scale scale s))
      (λ row. still_whole s (put_scale scale s).scales row (λ none e. scales_put row.id ∙ none)) s.pools h.limited.pools.deleting)
      (each_change_same (is_scale scale.pool) (λ (old : ScaleRow). scale) (λ (one : ScaleRow). has_pool_row s one.pool)
      (λ one e k. any_agree (is_pool scale.pool) (is_pool one.pool) (same_row one e) s.pools ∙ k) s.scales h.limited.pools.pools_of_scales) h
    where
      same_row : (one : ScaleRow) → is_scale scale.pool one ≡ true → (pool : PoolRow) → is_pool scale.pool pool ≡ is_pool one.pool pool
      same_row one e pool = key_right (record scale { pool = pool.id }) one e

  -- a valid row at the end, of a pool that is there and has none; no pool with its id is being deleted
  pub sound_scale_added : (seats : ℕ) → is_scale_in_range scale ≡ true → has_pool_row s scale.pool ≡ true → scales s scale.pool ≡ false
      → Each (λ pool. not (is_deleted scale.pool pool)) s.pools → IsSound seats s → IsSound seats (add_scale_row scale s)
  sound_scale_added seats in_range there none live h =
      sound_with_scales s (add_scale_row scale s).scales seats
      (distinct_append same_scale s.scales scale h.consistent.keys.scales none)
      (each_append is_scale_in_range s.scales scale h.limited.rows.scales in_range)
      (each_of_two (is_deleting_whole s) (λ pool. not (is_deleted scale.pool pool)) (is_deleting_whole (add_scale_row scale s))
      (λ pool whole alive. still_whole s (add_scale_row scale s).scales pool (still_none pool alive) whole) s.pools h.limited.pools.deleting live)
      (each_append (λ (one : ScaleRow). has_pool_row s one.pool) s.scales scale h.limited.pools.pools_of_scales there) h
    where
      another : (here deleting : Bool) → not (here && deleting) ≡ true → deleting ≡ true → here ≡ false
      another true true k e = cc
      another true false k e = cc
      another false deleting k e = refl

      still_none : (pool : PoolRow) → not (is_deleted scale.pool pool) ≡ true → scales s pool.id ≡ false → pool.deleting ≡ true
          → scales (add_scale_row scale s) pool.id ≡ false
      still_none pool alive before deleting =
          any_append_same (is_scale pool.id) s.scales scale
          (same_equiv.symm scale.pool pool.id ∙ another (is_pool scale.pool pool) pool.deleting alive deleting) ∙ before
