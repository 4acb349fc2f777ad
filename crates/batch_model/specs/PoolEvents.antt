-- Events that resize pools, stop that, and delete pools: their refusals in order, their statuses and what they do.
-- Source: Azure Batch REST reference, Resize Pool, Stop Pool Resize and Delete Pool, with their error codes.
use Rattle.std.specs.Prelude.{ℕ, Bool, true, not, ◌&&◌, List, [], ◌∷◌, Option, unwrap_or}
use Rattle.bt_rows.specs.declared.event.ResizeSpec.{ResizeSpec}
use Rattle.bt_rows.specs.declared.refusal.Refusal.{Refusal}
use Rattle.bt_rows.specs.declared.refusal.Refusal.TheVariants.{PoolBeingDeleted, PoolBeingResized, PoolScalesAutomatically, PoolNotResizing}
use Rattle.batch_model.specs.Rows.{put_pool}
use Rattle.batch_model.specs.Nodes.{is_in_pool, is_leaving}
use Rattle.batch_model.specs.Pools.{is_steady, is_resizing, resizing_from}
use Rattle.batch_model.specs.WellFormed.{scales}
use Rattle.batch_model.specs.Leaving.{leave}
use Rattle.batch_model.specs.Answers.{answer}
-- the pool does not scale automatically any more
pub use Rattle.batch_model.specs.Scaling.{drop_scale}
use Rattle.batch_model.specs.Steps.{Answered, refuse_if}
use Rattle.batch_model.specs.Variants.{State, PoolRow, Resizing, Stopping, ByRequeue, NodeRow}

-- why a pool is not resized, in order
abbrev pub resize_refusals : State → PoolRow → List (Option Refusal)
resize_refusals s pool =
    refuse_if pool.deleting PoolBeingDeleted
    ∷ refuse_if (scales s pool.id) PoolScalesAutomatically
    ∷ refuse_if (not (is_steady pool.alloc)) PoolBeingResized
    ∷ []

-- the given targets, and the old ones if none are given, with the given option
abbrev pub retargeted : ResizeSpec → PoolRow → PoolRow
retargeted spec pool = record pool {
  dedicated = unwrap_or spec.dedicated pool.dedicated;
  low = unwrap_or spec.low pool.low;
  option = spec.option;
}

-- resizing from now to the given targets, within the given time
abbrev pub resized_pool : ℕ → ResizeSpec → PoolRow → PoolRow
resized_pool now spec pool = resizing_from now spec.timeout (retargeted spec pool)

-- `resize`
abbrev pub resize_pool : State → ResizeSpec → PoolRow → Answered
resize_pool s spec pool = answer s (resize_refusals s pool) 202 (put_pool (resized_pool s.moment spec pool) s)

-- why the resize of a pool is not stopped, in order
abbrev pub stop_resize_refusals : PoolRow → List (Option Refusal)
stop_resize_refusals pool =
    refuse_if pool.deleting PoolBeingDeleted
    ∷ refuse_if (not (is_resizing pool.alloc)) PoolNotResizing
    ∷ []

-- the resize is being stopped
abbrev pub stopping : PoolRow → PoolRow
stopping pool = record pool { alloc = Stopping }

-- `stop-resize`
abbrev pub stop_resize : State → PoolRow → Answered
stop_resize s pool = answer s (stop_resize_refusals pool) 202 (put_pool (stopping pool) s)

-- why a pool is not deleted
abbrev pub delete_pool_refusals : PoolRow → List (Option Refusal)
delete_pool_refusals pool = refuse_if pool.deleting PoolBeingDeleted ∷ []

-- being deleted: it resizes to no nodes, which leave by requeue; when that began, its timeout and its error stay as they are
abbrev pub deleted_pool : PoolRow → PoolRow
deleted_pool pool = record pool { deleting = true; alloc = Resizing; dedicated = 0; low = 0; option = ByRequeue }

-- a node of the pool that is leaving
abbrev pub is_leaving_from : List ℕ → NodeRow → Bool
is_leaving_from pool node = is_in_pool pool node && is_leaving node.stage

-- the pool is being deleted, its formula is gone, and its nodes that are leaving leave by requeue
abbrev pub pool_deleted : State → PoolRow → State
pool_deleted s pool = leave ByRequeue (is_leaving_from pool.id) (drop_scale pool.id (put_pool (deleted_pool pool) s))

-- `delete-pool`
abbrev pub delete_pool : State → PoolRow → Answered
delete_pool s pool = answer s (delete_pool_refusals pool) 202 (pool_deleted s pool)
