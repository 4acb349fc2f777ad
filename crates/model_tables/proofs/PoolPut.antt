-- A pool in the place of the one with its id: tables with it are sound.
use Rattle.std.proofs.Common.{◌≡◌, ℕ, Bool, true, not, ◌&&◌, ◌||◌, nat_le, List, Some, sym, ◌∙◌}
use Rattle.std.specs.List.{find}
use Rattle.bt_base.proofs.SameIds.{same_equiv}
use Rattle.bt_rows.specs.Keys.{same_pool}
use Rattle.bt_rows.specs.Lists.{AreDistinct}
use Rattle.batch_model.specs.Rows.{is_pool, put_pool}
use Rattle.batch_model.specs.Pools.{waits_for_start}
use Rattle.batch_model.specs.Slots.{held_slots}
use Rattle.batch_model.specs.Limits.{pool_limit}
use Rattle.batch_model.specs.Sound.{IsConsistent, has_slots_for, IsWithinLimits, StartsAreSound, IsSound, awaits_no_start}
use Rattle.batch_model.specs.WellFormed.{has_pool_row, is_pool_valid, is_deleting_whole}
use Rattle.batch_model.specs.Variants.{State, PoolRow, NodeRow, SampleRow, ScaleRow}
use Rattle.model_lists.proofs.RowLists.{each_weaker, each_found}
use Rattle.model_lists.proofs.Lengths.{change_keeps_length}
use Rattle.model_lists.proofs.ChangedRows.{each_change_same, any_change_same}
use Rattle.model_lists.proofs.DistinctLists.{distinct_change}
use Rattle.model_tables.proofs.StartsKept.{none_awaited, starts_with_pools}
use Rattle.model_tables.proofs.PrepsKept.{preps_with_others}

module _ (s : State) (row : PoolRow) where
  -- the row has the key of the pool that it takes the place of
  has_key_left : (x y : PoolRow) → is_pool row.id x ≡ true → same_pool row y ≡ same_pool x y
  has_key_left x y t = sym (same_equiv.congr x.id row.id y.id t)

  -- the same, on the right
  has_key_right : (x y : PoolRow) → is_pool row.id y ≡ true → same_pool x row ≡ same_pool x y
  has_key_right x y t = same_equiv.symm x.id row.id ∙ sym (same_equiv.congr y.id row.id x.id t) ∙ same_equiv.symm y.id x.id

  -- ids of pools stay distinct
  pools_distinct : AreDistinct same_pool s.pools → AreDistinct same_pool (put_pool row s).pools
  pools_distinct d = distinct_change (is_pool row.id) (λ (old : PoolRow). row) same_pool has_key_left has_key_right s.pools d

  -- pools that have rows still have them
  pub pool_row_kept : (id : List ℕ) → has_pool_row s id ≡ true → has_pool_row (put_pool row s) id ≡ true
  pool_row_kept id h =
      any_change_same (is_pool row.id) (λ (old : PoolRow). row) (is_pool id) (λ x t. has_key_left x (record row { id = id }) t) s.pools ∙ h

  -- within the limits: a valid pool, which resizes to nothing and does not scale if it is being deleted
  pub limited_pool_put : IsWithinLimits s → is_pool_valid s.moment row ≡ true → is_deleting_whole s row ≡ true → IsWithinLimits (put_pool row s)
  limited_pool_put h valid whole = record {
    rows = record {
      moment = h.rows.moment;
      pools = each_change_same (is_pool row.id) (λ (old : PoolRow). row) (is_pool_valid s.moment) (λ x t p. valid) s.pools h.rows.pools;
      nodes = h.rows.nodes;
      jobs = h.rows.jobs;
      tasks = h.rows.tasks;
      runs = h.rows.runs;
      samples = h.rows.samples;
      scales = h.rows.scales;
    };
    counts = record {
      pools = change_keeps_length (is_pool row.id) (λ (old : PoolRow). row) pool_limit s.pools h.counts.pools;
      jobs = h.counts.jobs;
      tasks = h.counts.tasks;
      first_node = h.counts.first_node;
      next_node = h.counts.next_node;
      first_run = h.counts.first_run;
      next_run = h.counts.next_run;
    };
    quiet = h.quiet;
    pools = record {
      deleting = each_change_same (is_pool row.id) (λ (old : PoolRow). row) (is_deleting_whole s) (λ x t p. whole) s.pools h.pools.deleting;
      pools_of_scales =
          each_weaker (λ (scale : ScaleRow). has_pool_row s scale.pool) (λ (scale : ScaleRow). has_pool_row (put_pool row s) scale.pool)
          (λ scale. pool_row_kept scale.pool) s.scales h.pools.pools_of_scales;
      pools_of_samples =
          each_weaker (λ (sample : SampleRow). has_pool_row s sample.pool) (λ (sample : SampleRow). has_pool_row (put_pool row s) sample.pool)
          (λ sample. pool_row_kept sample.pool) s.samples h.pools.pools_of_samples;
      labels = h.pools.labels;
      order = h.pools.order;
      covered = h.pools.covered;
      kept = h.pools.kept;
    };
  }

  module _ (pool : PoolRow) (test : PoolRow → Bool) (found : find test s.pools ≡ Some pool) (ids : row.id ≡ pool.id) where
    -- a node's slots still suffice, where the row has the slots of the pool that it takes the place of
    slots_kept : row.slots ≡ pool.slots → (node : NodeRow) → has_slots_for s node ≡ true → has_slots_for (put_pool row s) node ≡ true
    slots_kept slots node h =
        each_change_same (is_pool row.id) (λ (old : PoolRow). row) has_slots
        (λ x t p. rw (ids, slots) (each_found has_slots test pool s.pools found h)) s.pools h
      where
        has_slots : PoolRow → Bool
        has_slots other = not (is_pool node.pool other) || nat_le (held_slots s node.number) other.slots

    -- the rows fit each other
    pub consistent_pool_put : (seats : ℕ) → row.slots ≡ pool.slots → IsConsistent seats s → IsConsistent seats (put_pool row s)
    consistent_pool_put seats slots h = record {
      keys = record {
        pools = pools_distinct h.keys.pools;
        nodes = h.keys.nodes;
        jobs = h.keys.jobs;
        tasks = h.keys.tasks;
        runs = h.keys.runs;
        preps = h.keys.preps;
        samples = h.keys.samples;
        scales = h.keys.scales;
      };
      numbers = record {
        begun = h.numbers.begun;
        runs = h.numbers.runs;
        nodes = h.numbers.nodes;
        nodes_of_runs = h.numbers.nodes_of_runs;
        order = h.numbers.order;
      };
      fitting = record { marks = h.fitting.marks; closing = h.fitting.closing; attempts = h.fitting.attempts };
      named = record {
        jobs_of_tasks = h.named.jobs_of_tasks;
        jobs_of_runs = h.named.jobs_of_runs;
        tasks_of_runs = h.named.tasks_of_runs;
        main_runs = h.named.main_runs;
      };
      seated = record {
        distinct = h.seated.distinct;
        in_range = h.seated.in_range;
        few = h.seated.few;
        pools_of_nodes =
            each_weaker (λ (node : NodeRow). has_pool_row s node.pool) (λ (node : NodeRow). has_pool_row (put_pool row s) node.pool)
            (λ node. pool_row_kept node.pool) s.nodes h.seated.pools_of_nodes;
        nodes_of_runs = h.seated.nodes_of_runs;
      };
      belonging = h.belonging;
      ending = h.ending;
      naming = record { on_nodes = h.naming.on_nodes; of_jobs = h.naming.of_jobs };
      slots = each_weaker (has_slots_for s) (has_slots_for (put_pool row s)) (slots_kept slots) s.nodes h.slots;
      built = record { runs = h.built.runs };
    }

    -- where the row has the start task of the pool that it takes the place of, nodes are usable as before
    pub starts_pool_put : (seats : ℕ) → row.start ≡ pool.start → IsConsistent seats s → StartsAreSound s → StartsAreSound (put_pool row s)
    starts_pool_put seats starts c h = starts_with_pools s (put_pool row s).pools c.seated.pools_of_nodes (λ id there. still id) h
      where
        still : (id : List ℕ) → awaits_no_start s id ≡ true → none_awaited (put_pool row s).pools id ≡ true
        still id none =
            each_change_same (is_pool row.id) (λ (old : PoolRow). row) (λ other. not (is_pool id other && waits_for_start other))
            (λ other t e. rw (ids, starts) (each_found (λ other. not (is_pool id other && waits_for_start other)) test pool s.pools found none))
            s.pools none

    -- a valid row with the id, the slots and the start task of the pool that it takes the place of
    pub sound_pool_put : (seats : ℕ) → row.slots ≡ pool.slots → row.start ≡ pool.start → is_pool_valid s.moment row ≡ true
        → is_deleting_whole s row ≡ true → IsSound seats s → IsSound seats (put_pool row s)
    sound_pool_put seats slots starts valid whole h = record {
      consistent = consistent_pool_put seats slots h.consistent;
      limited = limited_pool_put h.limited valid whole;
      unended = h.unended;
      starts = starts_pool_put seats starts h.consistent h.starts;
      preparing = preps_with_others s (put_pool row s).pools s.tasks s.moment h.preparing;
      resting = h.resting;
    }
