-- The opening of tables that an earlier run left: nothing runs, and no node is there.
-- Source: this project's own.
use Rattle.std.specs.Prelude.{ℕ, Bool, not, ◌&&◌, nat_eq, [], Some, is_some}
use Rattle.batch_model.specs.Rows.{change_pools, change_tasks, change_runs}
use Rattle.batch_model.specs.Runs.{is_unended}
-- an unended run is withdrawn now
pub use Rattle.batch_model.specs.Runs.{withdrawn}
use Rattle.batch_model.specs.Tasks.{is_placed, is_undisturbed, main_ending}
use Rattle.batch_model.specs.Pools.{is_stopping, resizing_from}
use Rattle.batch_model.specs.Variants.{State, PoolRow, Steady, TaskRow, WantRequeue}

-- a pool that is not being deleted and has a target
abbrev pub is_refilled : PoolRow → Bool
is_refilled pool = not pool.deleting && not (nat_eq pool.dedicated 0)

-- it resizes again from now, with its usual timeout and no error
abbrev pub refilled : ℕ → PoolRow → PoolRow
refilled now pool = resizing_from now pool.usual_timeout pool

-- a stopping pool without a target
abbrev pub is_emptied : PoolRow → Bool
is_emptied pool = is_stopping pool.alloc && nat_eq pool.dedicated 0

-- it is steady
abbrev pub emptied : PoolRow → PoolRow
emptied pool = record pool { alloc = Steady }

-- a placed task that nothing ends: no end is wanted, no ending counts in place of its main run's, and that has not ended
abbrev pub is_cut_short : State → TaskRow → Bool
is_cut_short s task = is_placed task.stage && is_undisturbed task && not (is_some (main_ending s task))

-- its requeue is wanted
abbrev pub requeued : TaskRow → TaskRow
requeued task = record task { wanted = Some WantRequeue }

-- nodes and preparations are gone
abbrev pub without_nodes : State → State
without_nodes s = record s { nodes = []; preps = [] }

-- moment, counters and all else stay
abbrev pub opening : State → State
opening s =
    without_nodes
    (change_runs (λ run. is_unended run.state) (withdrawn s.moment)
    (change_tasks (is_cut_short s) requeued
    (change_pools is_emptied emptied
    (change_pools is_refilled (refilled s.moment) s))))
