-- The changes that open tables: a put for each row that the opening changes, and a drop for each row that goes.
use Rattle.std.specs.Prelude.{ℕ, Bool, not, ◌&&◌, nat_eq, List, ◌++◌, map, Option, Some, is_none, if◌then◌else◌}
use Rattle.bt_rows.specs.State.{State}
use Rattle.bt_rows.specs.declared.tables.Change.{Change}
use Rattle.bt_rows.specs.declared.tables.Change.TheVariants.{PutPool, PutTask, PutRun, DropNode}
use Rattle.batch_model.specs.Finding.{only_if}
use Rattle.batch_model.specs.Runs.{is_unended}
use Rattle.batch_model.specs.Pools.{is_resizing}
use Rattle.batch_model.specs.Opening.{is_refilled, refilled, is_emptied, emptied, is_cut_short, requeued, withdrawn}
use Rattle.batch_model.specs.Variants.{PoolRow, NodeRow, TaskRow, RunRow}
use Rattle.row_changes.specs.Puts.{puts_of, prep_drop}

-- the pool resizes from now already, with its usual timeout and no error
abbrev pub is_fresh : ℕ → PoolRow → Bool
is_fresh now pool = is_resizing pool.alloc && nat_eq pool.began now && nat_eq pool.timeout pool.usual_timeout && is_none pool.error

-- the pool after the opening, if that changes it
abbrev pub opened_pool : ℕ → PoolRow → Option PoolRow
opened_pool now pool =
    if is_refilled pool then only_if (not (is_fresh now pool)) (Some (refilled now pool))
    else only_if (is_emptied pool) (Some (emptied pool))

-- the task after the opening, if that changes it
abbrev pub opened_task : State → TaskRow → Option TaskRow
opened_task s task = only_if (is_cut_short s task) (Some (requeued task))

-- the run after the opening, if that changes it
abbrev pub opened_run : ℕ → RunRow → Option RunRow
opened_run now run = only_if (is_unended run.state) (Some (withdrawn now run))

-- the changes of each list of rows

abbrev pub pool_puts : State → List Change
pool_puts s = puts_of PutPool (opened_pool s.moment) s.pools

abbrev pub task_puts : State → List Change
task_puts s = puts_of PutTask (opened_task s) s.tasks

abbrev pub run_puts : State → List Change
run_puts s = puts_of PutRun (opened_run s.moment) s.runs

abbrev pub drop_of_node : NodeRow → Change
drop_of_node node = DropNode node.number

abbrev pub node_drops : State → List Change
node_drops s = map drop_of_node s.nodes

abbrev pub prep_drops : State → List Change
prep_drops s = map prep_drop s.preps

-- all of them after others
abbrev pub with_opening : State → List Change → List Change
with_opening s changes = changes ++ pool_puts s ++ task_puts s ++ run_puts s ++ node_drops s ++ prep_drops s
