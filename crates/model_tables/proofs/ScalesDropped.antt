-- Tables stay sound when a pool does not scale automatically any more.
use Rattle.std.proofs.Common.{◌≡◌, ℕ, Bool, true, false, not, ◌&&◌, ◌||◌, nat_eq, List, refl}
use Rattle.bt_base.specs.Ids.{same}
use Rattle.bt_rows.specs.Keys.{same_scale}
use Rattle.batch_model.specs.Pools.{is_resizing}
use Rattle.batch_model.specs.Scaling.{drop_scale}
use Rattle.batch_model.specs.Sound.{IsConsistent, IsWithinLimits, IsSound}
use Rattle.batch_model.specs.WellFormed.{has_pool_row, is_scale_in_range, scales, is_deleting_whole}
use Rattle.batch_model.specs.Variants.{State, PoolRow, ScaleRow}
use Rattle.model_lists.proofs.RowLists.{each_weaker, none_any}
use Rattle.model_lists.proofs.KeptRows.{kept_pass, each_kept, none_kept, distinct_kept}

module _ (pool : List ℕ) (s : State) where
  -- the formulas that are kept
  abbrev keeps_scale : ScaleRow → Bool
  keeps_scale scale = not (same scale.pool pool)

  -- the tables after the drop
  abbrev after : State
  after = drop_scale pool s

  -- the pool does not scale
  pub scale_gone : scales (drop_scale pool s) pool ≡ false
  scale_gone = none_any (λ (scale : ScaleRow). same scale.pool pool) after.scales (kept_pass keeps_scale s.scales)

  -- a pool that is being deleted still resizes to nothing, and does not scale
  whole_still : (row : PoolRow) → is_deleting_whole s row ≡ true → is_deleting_whole after row ≡ true
  whole_still row =
      still row.deleting (is_resizing row.alloc) (nat_eq row.dedicated 0) (nat_eq row.low 0) (scales s row.id) (scales after row.id)
      (none_kept keeps_scale (λ (scale : ScaleRow). same scale.pool row.id) s.scales)
    where
      still : (deleting resizing none few scaling less : Bool) → (scaling ≡ false → less ≡ false)
          → (not deleting || (resizing && none && few && not scaling)) ≡ true → (not deleting || (resizing && none && few && not less)) ≡ true
      still false resizing none few scaling less fewer h = refl
      still true false none few scaling less fewer h = cc
      still true true false few scaling less fewer h = cc
      still true true true false scaling less fewer h = cc
      still true true true true true less fewer h = cc
      still true true true true false less fewer h = rw (fewer refl) refl

  -- the rows fit each other
  consistent_scale_dropped : (seats : ℕ) → IsConsistent seats s → IsConsistent seats after
  consistent_scale_dropped seats h = record {
    keys = record {
      pools = h.keys.pools;
      nodes = h.keys.nodes;
      jobs = h.keys.jobs;
      tasks = h.keys.tasks;
      runs = h.keys.runs;
      preps = h.keys.preps;
      samples = h.keys.samples;
      scales = distinct_kept keeps_scale same_scale s.scales h.keys.scales;
    };
    numbers = record {
      begun = h.numbers.begun;
      runs = h.numbers.runs;
      nodes = h.numbers.nodes;
      nodes_of_runs = h.numbers.nodes_of_runs;
      order = h.numbers.order;
    };
    fitting = record { marks = h.fitting.marks; closing = h.fitting.closing; attempts = h.fitting.attempts };
    named = record {
      jobs_of_tasks = h.named.jobs_of_tasks;
      jobs_of_runs = h.named.jobs_of_runs;
      tasks_of_runs = h.named.tasks_of_runs;
      main_runs = h.named.main_runs;
    };
    seated = record {
      distinct = h.seated.distinct;
      in_range = h.seated.in_range;
      few = h.seated.few;
      pools_of_nodes = h.seated.pools_of_nodes;
      nodes_of_runs = h.seated.nodes_of_runs;
    };
    belonging = h.belonging;
    ending = h.ending;
    naming = record { on_nodes = h.naming.on_nodes; of_jobs = h.naming.of_jobs };
    slots = h.slots;
    built = record { runs = h.built.runs };
  }

  -- values stay within the limits
  limited_scale_dropped : IsWithinLimits s → IsWithinLimits after
  limited_scale_dropped h = record {
    rows = record {
      moment = h.rows.moment;
      pools = h.rows.pools;
      nodes = h.rows.nodes;
      jobs = h.rows.jobs;
      tasks = h.rows.tasks;
      runs = h.rows.runs;
      samples = h.rows.samples;
      scales = each_kept keeps_scale is_scale_in_range s.scales h.rows.scales;
    };
    counts = record {
      pools = h.counts.pools;
      jobs = h.counts.jobs;
      tasks = h.counts.tasks;
      first_node = h.counts.first_node;
      next_node = h.counts.next_node;
      first_run = h.counts.first_run;
      next_run = h.counts.next_run;
    };
    quiet = h.quiet;
    pools = record {
      deleting = each_weaker (is_deleting_whole s) (is_deleting_whole after) whole_still s.pools h.pools.deleting;
      pools_of_scales = each_kept keeps_scale (λ (scale : ScaleRow). has_pool_row s scale.pool) s.scales h.pools.pools_of_scales;
      pools_of_samples = h.pools.pools_of_samples;
      labels = h.pools.labels;
      order = h.pools.order;
      covered = h.pools.covered;
      kept = h.pools.kept;
    };
  }

  -- the pool's formula is dropped
  pub sound_scale_dropped : (seats : ℕ) → IsSound seats s → IsSound seats (drop_scale pool s)
  sound_scale_dropped seats h = record {
    consistent = consistent_scale_dropped seats h.consistent;
    limited = limited_scale_dropped h.limited;
    unended = h.unended;
    starts = record { usable = h.starts.usable; tries = h.starts.tries };
    preparing = record {
      jobs_of_preps = h.preparing.jobs_of_preps;
      nodes_of_preps = h.preparing.nodes_of_preps;
      running = h.preparing.running;
      single = h.preparing.single;
      prepared = h.preparing.prepared;
      released = h.preparing.released;
      tries = h.preparing.tries;
    };
    resting = h.resting;
  }
