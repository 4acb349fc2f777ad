-- Pools: their states, how many nodes they have, and new ones.
-- Source: Azure Batch REST reference, AllocationState and the properties of Pool; seats are this project's own.
use Rattle.std.specs.Prelude.{ℕ, zero, suc, Bool, true, false, not, ◌&&◌, nat_eq, List, count_by, filter, find, Option, None}
use Rattle.std.specs.Option.{option_map_or}
use Rattle.std.specs.List.{list_any, range_with_len}
use Rattle.bt_rows.specs.declared.event.PoolSpec.{PoolSpec}
use Rattle.batch_model.specs.Nodes.{is_leaving, is_in_pool, stays}
use Rattle.batch_model.specs.Variants.{State, PoolRow, NodeRow, StartTask, Alloc, Steady, Resizing, Stopping, ByRequeue}

abbrev pub is_steady : Alloc → Bool
is_steady Steady = true
is_steady Resizing = false
is_steady Stopping = false

abbrev pub is_resizing : Alloc → Bool
is_resizing Steady = false
is_resizing Resizing = true
is_resizing Stopping = false

abbrev pub is_stopping : Alloc → Bool
is_stopping Steady = false
is_stopping Resizing = false
is_stopping Stopping = true

-- a node leaves the pool
abbrev pub has_leaving : State → List ℕ → Bool
has_leaving s pool = list_any (λ node. is_in_pool pool node && is_leaving node.stage) s.nodes

-- the pool has a node
abbrev pub has_node : State → List ℕ → Bool
has_node s pool = list_any (is_in_pool pool) s.nodes

-- the pool's nodes that do not leave
abbrev pub staying : State → List ℕ → List NodeRow
staying s pool = filter (stays pool) s.nodes

-- how many of the pool's nodes do not leave
abbrev pub staying_count : State → List ℕ → ℕ
staying_count s pool = count_by (stays pool) s.nodes

-- the lowest seat on which no node sits
abbrev pub free_seat : ℕ → State → Option ℕ
free_seat seats s = find (λ seat. not (list_any (λ node. nat_eq node.seat seat) s.nodes)) (range_with_len 1 seats)

-- nodes wait for the pool's start task
abbrev pub waits_for_start : PoolRow → Bool
waits_for_start pool = option_map_or (λ (start : StartTask). start.wait) pool.start false

-- a pool without a target is steady at once
abbrev pub first_alloc : ℕ → Alloc
first_alloc zero = Steady
first_alloc (suc n) = Resizing

-- it resizes from now, within this time, and has no error
abbrev pub resizing_from : ℕ → ℕ → PoolRow → PoolRow
resizing_from now limit pool = record pool { alloc = Resizing; began = now; timeout = limit; error = None }

-- a pool is added with the usual option, and begins to resize
abbrev pub new_pool : ℕ → PoolSpec → PoolRow
new_pool now spec = record {
  id = spec.id;
  deleting = false;
  alloc = first_alloc spec.dedicated;
  slots = spec.slots;
  fill = spec.fill;
  inter = spec.inter;
  start = spec.start;
  dedicated = spec.dedicated;
  low = spec.low;
  option = ByRequeue;
  usual_timeout = spec.timeout;
  timeout = spec.timeout;
  began = now;
  error = None;
  enabled = None;
}
