-- The event `add-pool` keeps sound tables.
use Rattle.std.proofs.Common.{◌≡◌, ℕ, true, false, not, ◌||◌, nat_le, List, sym, ◌∙◌, Bool, ◌&&◌, nat_eq, is_none, length, refl}
use Rattle.std.proofs.Common.{is_some, Option, Some, None, inl, inr}
use Rattle.bt_base.specs.Ids.{same}
use Rattle.bt_base.proofs.SameIds.{same_equiv}
use Rattle.bt_rows.specs.Keys.{same_pool}
use Rattle.bt_rows.specs.declared.event.PoolSpec.{PoolSpec}
use Rattle.bt_rows.specs.declared.event.Scaling.{Scaling}
use Rattle.bt_rows.specs.Ranges.{passes_if_some, is_target, is_slot_count, is_resize_timeout, is_start_in_range, is_scaling_in_range, is_pool_spec_in_range}
use Rattle.bt_rows.specs.declared.refusal.Refusal.TheVariants.{PoolExists, TableFull}
use Rattle.bt_rows.specs.declared.refusal.Table.TheVariants.{Pools}
use Rattle.batch_model.specs.Rows.{is_pool, add_pool_row, pool_of}
use Rattle.batch_model.specs.Slots.{held_slots}
use Rattle.batch_model.specs.Sound.{IsConsistent, has_slots_for, IsWithinLimits, StartsAreSound, IsSound, awaits_no_start}
use Rattle.batch_model.specs.WellFormed.{scales, has_pool_row, is_pool_in_range, is_pool_valid, is_deleting_whole}
use Rattle.batch_model.specs.Variants.{State, PoolRow, NodeRow, SampleRow, ScaleRow}
use Rattle.batch_model.specs.Pools.{new_pool, waits_for_start}
use Rattle.batch_model.specs.Limits.{pool_limit}
use Rattle.batch_model.specs.Events.{add_pool_refusals, pool_added, add_pool}
use Rattle.batch_model.specs.Scaling.{is_scale, new_scale, add_given_scale}
use Rattle.batch_model.specs.Finding.{Each}
use Rattle.model_lists.proofs.Tests.{under, and_true, and_first, and_second, true_not, passes_or_not}
use Rattle.model_lists.proofs.RowLists.{any_none, none_any, any_append_new, each_append, each_weaker, each_of_two, any_append_old, any_agree, none_found}
use Rattle.model_lists.proofs.DistinctLists.{distinct_append}
use Rattle.model_lists.proofs.NextNumbers.{is_not_after_itself}
use Rattle.model_lists.proofs.Lengths.{takes_one}
use Rattle.model_tables.proofs.StartsKept.{none_awaited, starts_with_pools}
use Rattle.model_tables.proofs.PrepsKept.{preps_with_others}
use Rattle.model_tables.proofs.ScalesPut.{is_deleted, sound_scale_added}
use Rattle.model_events.proofs.Keeping.{passed, answer_keeps}

-- a pool whose id no pool has is not the pool of a node, which has a row
is_other : (s : State) (pool : PoolRow) (id : List ℕ) → has_pool_row s pool.id ≡ false → has_pool_row s id ≡ true → same pool.id id ≡ true → false ≡ true
is_other s pool id new there e =
    sym new ∙ any_agree (is_pool pool.id) (is_pool id)
    (λ other. same_equiv.symm other.id pool.id ∙ same_equiv.congr pool.id id other.id e ∙ same_equiv.symm id other.id) s.pools ∙ there

-- the new pool is no node's, so nodes hold no more slots than their pools have
slots_for : (s : State) (pool : PoolRow) (node : NodeRow) → has_pool_row s pool.id ≡ false → has_slots_for s node ≡ true → has_pool_row s node.pool ≡ true
    → has_slots_for (add_pool_row pool s) node ≡ true
slots_for s pool node new h there =
    each_append (λ other. not (is_pool node.pool other) || nat_le (held_slots s node.number) other.slots) s.pools pool h
    (under (is_pool node.pool pool) (nat_le (held_slots s node.number) pool.slots) (λ e. let f : false ≡ true = is_other s pool node.pool new there e in cc))

-- a pool with a new id
consistent_pool_added : (seats : ℕ) (s : State) (pool : PoolRow) → IsConsistent seats s → has_pool_row s pool.id ≡ false
    → IsConsistent seats (add_pool_row pool s)
consistent_pool_added seats s pool h new = record {
  keys = record {
    pools = distinct_append same_pool s.pools pool h.keys.pools new;
    nodes = h.keys.nodes;
    jobs = h.keys.jobs;
    tasks = h.keys.tasks;
    runs = h.keys.runs;
    preps = h.keys.preps;
    samples = h.keys.samples;
    scales = h.keys.scales;
  };
  numbers = record {
    begun = h.numbers.begun;
    runs = h.numbers.runs;
    nodes = h.numbers.nodes;
    nodes_of_runs = h.numbers.nodes_of_runs;
    order = h.numbers.order;
  };
  fitting = record { marks = h.fitting.marks; closing = h.fitting.closing; attempts = h.fitting.attempts };
  named = record {
    jobs_of_tasks = h.named.jobs_of_tasks;
    jobs_of_runs = h.named.jobs_of_runs;
    tasks_of_runs = h.named.tasks_of_runs;
    main_runs = h.named.main_runs;
  };
  seated = record {
    distinct = h.seated.distinct;
    in_range = h.seated.in_range;
    few = h.seated.few;
    pools_of_nodes =
        each_weaker (λ (node : NodeRow). has_pool_row s node.pool) (λ (node : NodeRow). has_pool_row (add_pool_row pool s) node.pool)
        (λ node. any_append_old (is_pool node.pool) s.pools pool) s.nodes h.seated.pools_of_nodes;
    nodes_of_runs = h.seated.nodes_of_runs;
  };
  belonging = h.belonging;
  ending = h.ending;
  naming = record { on_nodes = h.naming.on_nodes; of_jobs = h.naming.of_jobs };
  slots =
      each_of_two (has_slots_for s) (λ (node : NodeRow). has_pool_row s node.pool) (has_slots_for (add_pool_row pool s))
      (λ node. slots_for s pool node new) s.nodes h.slots h.seated.pools_of_nodes;
  built = record { runs = h.built.runs };
}

-- its values are those of its event
new_pool_in_range : (now : ℕ) (spec : PoolSpec) → is_pool_spec_in_range spec ≡ true → is_pool_in_range (new_pool now spec) ≡ true
new_pool_in_range now spec h =
    in_order (is_target spec.dedicated) (nat_eq spec.low 0) (is_slot_count spec.slots) (is_resize_timeout spec.timeout)
    (passes_if_some is_start_in_range spec.start)
    (and_first _ (passes_if_some is_scaling_in_range spec.scale) (and_first _ (is_none spec.scale || nat_eq spec.dedicated 0) h))
  where
    in_order : (target low slots timeout start : Bool) → (target && low && slots && timeout && start) ≡ true
        → (slots && target && low && timeout && timeout && start) ≡ true
    in_order false low slots timeout start k = cc
    in_order true false slots timeout start k = cc
    in_order true true false timeout start k = cc
    in_order true true true false start k = cc
    in_order true true true true start k = k

-- a pool whose values are in their ranges
limited_pool_added : (s : State) (spec : PoolSpec) → IsWithinLimits s → is_pool_spec_in_range spec ≡ true → nat_le pool_limit (length s.pools) ≡ false
    → IsWithinLimits (add_pool_row (new_pool s.moment spec) s)
limited_pool_added s spec h in_range room = record {
  rows = record {
    moment = h.rows.moment;
    pools =
        each_append (is_pool_valid s.moment) s.pools (new_pool s.moment spec) h.rows.pools
        (and_true (new_pool_in_range s.moment spec in_range) (and_true (is_not_after_itself s.moment) refl));
    nodes = h.rows.nodes;
    jobs = h.rows.jobs;
    tasks = h.rows.tasks;
    runs = h.rows.runs;
    samples = h.rows.samples;
    scales = h.rows.scales;
  };
  counts = record {
    pools = takes_one pool_limit s.pools (new_pool s.moment spec) room;
    jobs = h.counts.jobs;
    tasks = h.counts.tasks;
    first_node = h.counts.first_node;
    next_node = h.counts.next_node;
    first_run = h.counts.first_run;
    next_run = h.counts.next_run;
  };
  quiet = h.quiet;
  pools = record {
    deleting = each_append (is_deleting_whole s) s.pools (new_pool s.moment spec) h.pools.deleting refl;
    pools_of_scales =
        each_weaker (λ (scale : ScaleRow). has_pool_row s scale.pool) (λ (scale : ScaleRow). has_pool_row (add_pool_row (new_pool s.moment spec) s) scale.pool)
        (λ scale. any_append_old (is_pool scale.pool) s.pools (new_pool s.moment spec)) s.scales h.pools.pools_of_scales;
    pools_of_samples =
        each_weaker (λ (sample : SampleRow). has_pool_row s sample.pool)
        (λ (sample : SampleRow). has_pool_row (add_pool_row (new_pool s.moment spec) s) sample.pool)
        (λ sample. any_append_old (is_pool sample.pool) s.pools (new_pool s.moment spec)) s.samples h.pools.pools_of_samples;
    labels = h.pools.labels;
    order = h.pools.order;
    covered = h.pools.covered;
    kept = h.pools.kept;
  };
}

-- a pool with a new id is no node's
starts_pool_added : (s : State) (pool : PoolRow) → has_pool_row s pool.id ≡ false → Each (λ (node : NodeRow). has_pool_row s node.pool) s.nodes
    → StartsAreSound s → StartsAreSound (add_pool_row pool s)
starts_pool_added s pool new there h = starts_with_pools s (add_pool_row pool s).pools there still h
  where
    still : (id : List ℕ) → has_pool_row s id ≡ true → awaits_no_start s id ≡ true → none_awaited (add_pool_row pool s).pools id ≡ true
    still id row none =
        each_append (λ (other : PoolRow). not (is_pool id other && waits_for_start other)) s.pools pool none
        (elim (passes_or_not (is_pool id pool)) [
          | inl e ↦ let f : false ≡ true = is_other s pool id new row e in cc
          | inr e ↦ rw e refl
        ])

-- a pool with a new id, whose values are in their ranges
sound_pool_added : (seats : ℕ) (s : State) (spec : PoolSpec) → IsSound seats s → is_pool_spec_in_range spec ≡ true → has_pool_row s spec.id ≡ false
    → nat_le pool_limit (length s.pools) ≡ false → IsSound seats (add_pool_row (new_pool s.moment spec) s)
sound_pool_added seats s spec h in_range new room = record {
  consistent = consistent_pool_added seats s (new_pool s.moment spec) h.consistent new;
  limited = limited_pool_added s spec h.limited in_range room;
  unended = h.unended;
  starts = starts_pool_added s (new_pool s.moment spec) new h.consistent.seated.pools_of_nodes h.starts;
  preparing = preps_with_others s (add_pool_row (new_pool s.moment spec) s).pools s.tasks s.moment h.preparing;
  resting = h.resting;
}

-- the pool scales as it is told, if it is
given_scale_kept : (seats : ℕ) (s : State) (pool : List ℕ) (given : Option Scaling) → passes_if_some is_scaling_in_range given ≡ true
    → has_pool_row s pool ≡ true → scales s pool ≡ false → Each (λ row. not (is_deleted pool row)) s.pools → IsSound seats s
    → IsSound seats (add_given_scale pool given s)
given_scale_kept seats s pool None range there none live h = h
given_scale_kept seats s pool (Some scaling) range there none live h =
    sound_scale_added s (new_scale s.moment pool scaling.formula scaling.interval) seats range there none live h

-- it is told so within the limits
scale_in_range : (spec : PoolSpec) → is_pool_spec_in_range spec ≡ true → passes_if_some is_scaling_in_range spec.scale ≡ true
scale_in_range spec h =
    and_second _ (passes_if_some is_scaling_in_range spec.scale) (and_first _ (is_none spec.scale || nat_eq spec.dedicated 0) h)

-- no pool with a new id is being deleted, and none scales
none_deleted : (s : State) (spec : PoolSpec) → has_pool_row s spec.id ≡ false → Each (λ row. not (is_deleted spec.id row)) (add_pool_row (new_pool s.moment spec) s).pools
none_deleted s spec new =
    each_append (λ row. not (is_deleted spec.id row)) s.pools (new_pool s.moment spec)
    (each_weaker (λ row. not (is_pool spec.id row)) (λ row. not (is_deleted spec.id row)) (λ row. not_both (is_pool spec.id row) row.deleting) s.pools
    (any_none (is_pool spec.id) s.pools new))
    (not_second (is_pool spec.id (new_pool s.moment spec)))
  where
    not_both : (a b : Bool) → not a ≡ true → not (a && b) ≡ true
    not_both true b k = cc
    not_both false b k = refl

    not_second : (a : Bool) → not (a && false) ≡ true
    not_second true = refl
    not_second false = refl

none_scales : (s : State) (pool : PoolRow) → has_pool_row s pool.id ≡ false → Each (λ (scale : ScaleRow). has_pool_row s scale.pool) s.scales
    → scales s pool.id ≡ false
none_scales s pool new there =
    none_any (is_scale pool.id) s.scales
    (each_weaker (λ (scale : ScaleRow). has_pool_row s scale.pool) (λ scale. not (is_scale pool.id scale)) apart s.scales there)
  where
    apart : (scale : ScaleRow) → has_pool_row s scale.pool ≡ true → not (is_scale pool.id scale) ≡ true
    apart scale row = elim (passes_or_not (is_scale pool.id scale)) [
      | inl e ↦ let f : false ≡ true = is_other s pool scale.pool new row (same_equiv.symm pool.id scale.pool ∙ e) in cc
      | inr e ↦ true_not e
    ]

-- `add-pool`
pub add_pool_kept : (seats : ℕ) (s : State) (spec : PoolSpec) → is_pool_spec_in_range spec ≡ true → IsSound seats s → IsSound seats (add_pool s spec).state
add_pool_kept seats s spec in_range h =
    answer_keeps (IsSound seats) s h (add_pool_refusals s spec) 201 (pool_added s spec)
    (λ absent.
    added (none_found (is_pool spec.id) s.pools (passed (is_some (pool_of s spec.id)) PoolExists absent.0))
    (passed (nat_le pool_limit (length s.pools)) (TableFull Pools pool_limit) absent.1.0))
  where
    added : has_pool_row s spec.id ≡ false → nat_le pool_limit (length s.pools) ≡ false → IsSound seats (pool_added s spec)
    added new room =
        given_scale_kept seats (add_pool_row (new_pool s.moment spec) s) spec.id spec.scale (scale_in_range spec in_range)
        (any_append_new (is_pool spec.id) s.pools (new_pool s.moment spec) (same_equiv.refl spec.id))
        (none_scales s (new_pool s.moment spec) new h.limited.pools.pools_of_scales) (none_deleted s spec new) (sound_pool_added seats s spec h in_range new room)
