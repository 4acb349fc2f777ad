-- The due rules that are built, in the order in which they are tried. Each takes its first row in list order.
-- Source: Azure Batch REST reference, AllocationState, resizeTimeout and ComputeNodeDeallocationOption of pools, retentionTime of tasks;
-- rules as steps, the order in which nodes leave, and seats are this project's own.
use Rattle.std.specs.Prelude.{ℕ, ◌+◌, Bool, true, false, not, ◌&&◌, ◌||◌, nat_eq, nat_lt, nat_le, List, [], ◌∷◌, filter, find, Option, Some, None, if◌then◌else◌}
use Rattle.std.specs.Option.{option_map, option_map_or, option_and_then}
use Rattle.std.specs.List.{list_any}
use Rattle.bt_base.specs.Ids.{same}
use Rattle.bt_rows.specs.declared.due.Due.TheVariants.{PoolResized, NodeLeaves, NodeDropped, NodeAdded}
use Rattle.bt_rows.specs.declared.due.ResizeEnd.TheVariants.{Removed, Reached, TimedOut, Stopped}
use Rattle.batch_model.specs.Finding.{best, first_of, only_if, has_number_left, has_passed}
use Rattle.batch_model.specs.Rows.{is_pool, is_node, put_pool, add_node_row, add_run_row}
use Rattle.batch_model.specs.Runs.{is_start, is_ended, is_unended, is_run_of_task, start_run}
use Rattle.batch_model.specs.Pools.{is_resizing, is_stopping, has_node, has_leaving, staying, staying_count, free_seat, waits_for_start}
use Rattle.batch_model.specs.Slots.{held_slots}
use Rattle.batch_model.specs.Leaving.{leave}
use Rattle.batch_model.specs.Settling.{is_over, settle}
use Rattle.batch_model.specs.JobRules.{enable_first, terminate_first, disable_first, release_first, end_first}
use Rattle.batch_model.specs.WallTimes.{time_out_task_first, time_out_release_first, time_out_job_first}
use Rattle.batch_model.specs.Placing.{place_first}
use Rattle.batch_model.specs.Scaling.{sample_first, scale_first}
use Rattle.batch_model.specs.Steps.{DueStep}
use Rattle.batch_model.specs.Variants.{State, PoolRow, StartTask, Steady, ResizeError, AllocationTimedOut, ResizeStopped, NodeRow, NodeStage, Starting, Usable, Leaving, Dealloc, RetainedData, TaskRow, RunRow, PrepRow, SampleRow}

-- U5: a placed task whose present attempt has no unended run is settled
abbrev pub settle_first : State → Option DueStep
settle_first s = option_and_then (settle s) (find (is_over s) s.tasks)

-- the rules of jobs and tasks: the wall time of a task is over (U2), that of a release run (U3), and that of a job (U4), a task
-- is settled (U5), a job is active again (U6), it is terminated with its tasks (U7), it is disabled (U8), a release run of it is
-- made (U9), and it has ended (U10)
abbrev pub job_step : State → Option DueStep
job_step s =
    first_of
    (time_out_task_first s
    ∷ time_out_release_first s
    ∷ time_out_job_first s
    ∷ settle_first s
    ∷ enable_first s
    ∷ terminate_first s
    ∷ disable_first s
    ∷ release_first s
    ∷ end_first s
    ∷ [])

-- U11: the resize of a pool ends: one that is deleted and has no nodes is dropped, and another is steady once it has as many nodes as its
-- target, its timeout is over, or it was stopped

-- being deleted, without nodes
abbrev pub is_gone : State → PoolRow → Bool
is_gone s pool = pool.deleting && not (has_node s pool.id)

-- a start run of the pool
abbrev pub is_start_run_of : List ℕ → RunRow → Bool
is_start_run_of pool run = is_start run.kind && same run.pool pool

-- the pool is dropped, with its samples and its start runs
abbrev pub drop_pool : PoolRow → State → State
drop_pool pool s = record s {
  pools = filter (λ (row : PoolRow). not (is_pool pool.id row)) s.pools;
  samples = filter (λ (sample : SampleRow). not (same sample.pool pool.id)) s.samples;
  runs = filter (λ (run : RunRow). not (is_start_run_of pool.id run)) s.runs;
}

-- the line names the pool
abbrev pub pool_dropped : State → PoolRow → DueStep
pool_dropped s pool = record { due = PoolResized pool.id Removed; state = drop_pool pool s }

-- not deleted, resizing, with its target's number of nodes, none of them leaving
abbrev pub has_reached : State → PoolRow → Bool
has_reached s pool =
    not pool.deleting && is_resizing pool.alloc && not (has_leaving s pool.id) && nat_eq (staying_count s pool.id) pool.dedicated

-- the pool is steady
abbrev pub steady : PoolRow → PoolRow
steady pool = record pool { alloc = Steady }

-- the line names the pool
abbrev pub pool_steady : State → PoolRow → DueStep
pool_steady s pool = record { due = PoolResized pool.id Reached; state = put_pool (steady pool) s }

-- not deleted, resizing, with its timeout over
abbrev pub has_timed_out : State → PoolRow → Bool
has_timed_out s pool = not pool.deleting && is_resizing pool.alloc && nat_le (pool.began + pool.timeout) s.moment

-- the pool is steady, and keeps why
abbrev pub steady_for : ResizeError → PoolRow → PoolRow
steady_for why pool = record pool { alloc = Steady; error = Some why }

-- the line names the pool
abbrev pub pool_timed_out : State → PoolRow → DueStep
pool_timed_out s pool = record { due = PoolResized pool.id TimedOut; state = put_pool (steady_for AllocationTimedOut pool) s }

-- not deleted, with a resize that is being stopped
abbrev pub is_to_stop : PoolRow → Bool
is_to_stop pool = not pool.deleting && is_stopping pool.alloc

-- the line names the pool
abbrev pub pool_stopped : State → PoolRow → DueStep
pool_stopped s pool = record { due = PoolResized pool.id Stopped; state = put_pool (steady_for ResizeStopped pool) s }

-- its resize ends, in one of these ways
abbrev pub ends_resize : State → PoolRow → Bool
ends_resize s pool = is_gone s pool || has_reached s pool || has_timed_out s pool || is_to_stop pool

-- the first of these ways that there is
abbrev pub resize_ended : State → PoolRow → DueStep
resize_ended s pool =
    if is_gone s pool then pool_dropped s pool
    else if has_reached s pool then pool_steady s pool
    else if has_timed_out s pool then pool_timed_out s pool
    else pool_stopped s pool

-- the first such pool
abbrev pub end_resize : State → Option DueStep
end_resize s = option_map (resize_ended s) (find (ends_resize s) s.pools)

-- U13: of a resizing pool with more nodes than its target one leaves: the one that holds the fewest slots, and of these the one with the
-- highest number

-- the node holds fewer slots, or as many and has a higher number
abbrev pub leaves_before : State → NodeRow → NodeRow → Bool
leaves_before s node other =
    nat_lt (held_slots s node.number) (held_slots s other.number)
    || (nat_eq (held_slots s node.number) (held_slots s other.number) && nat_lt other.number node.number)

-- resizing, with more staying nodes than its target
abbrev pub has_too_many : State → PoolRow → Bool
has_too_many s pool = is_resizing pool.alloc && nat_lt pool.dedicated (staying_count s pool.id)

-- the line names the node, which leaves by the pool's option
abbrev pub node_leaves : State → PoolRow → NodeRow → DueStep
node_leaves s pool node = record { due = NodeLeaves node.number; state = leave pool.option (is_node node.number) s }

-- of the nodes that stay the one that leaves before the others
abbrev pub one_leaves : State → PoolRow → Option DueStep
one_leaves s pool = option_map (node_leaves s pool) (best (leaves_before s) (staying s pool.id))

-- of the first such pool
abbrev pub remove_node : State → Option DueStep
remove_node s = option_and_then (one_leaves s) (find (has_too_many s) s.pools)

-- the rules of pools: a resize has ended (U11), a formula is evaluated (U12), and a node leaves (U13)
abbrev pub pool_step : State → Option DueStep
pool_step s = first_of (end_resize s ∷ scale_first s ∷ remove_node s ∷ [])

-- U14: a leaving node without unended runs and held slots is dropped, once the retention times of the tasks that ran there are over if it
-- leaves by retained data

-- an unended run on the node
abbrev pub is_unended_on : ℕ → RunRow → Bool
is_unended_on node run = nat_eq run.node node && is_unended run.state

-- the run is of this task, in any attempt, and ended at a moment since which the task's retention time is not over
abbrev pub is_retained_by : ℕ → RunRow → ℕ → TaskRow → Bool
is_retained_by now run at task = is_run_of_task task.job task.id run && not (has_passed at task.retention now)

-- the run ended, and is retained by a task that has a row
abbrev pub is_retained : State → RunRow → Bool
is_retained s run = is_ended run.state && option_map_or (λ at. list_any (is_retained_by s.moment run at) s.tasks) run.ended false

-- a run on the node is retained
abbrev pub has_retained : State → ℕ → Bool
has_retained s node = list_any (λ run. nat_eq run.node node && is_retained s run) s.runs

-- nodes that leave by retained data wait for it
abbrev pub keeps_data : Dealloc → Bool
keeps_data RetainedData = true
keeps_data _ = false

-- leaving, with nothing to wait for by its option
abbrev pub may_go : State → ℕ → NodeStage → Bool
may_go s node (Leaving option) = not (keeps_data option && has_retained s node)
may_go s node _ = false

-- leaving, without unended runs and held slots, and with nothing to wait for
abbrev pub is_empty_node : State → NodeRow → Bool
is_empty_node s node =
    may_go s node.number node.stage && not (list_any (is_unended_on node.number) s.runs) && nat_eq (held_slots s node.number) 0

-- the node is dropped, with the preparations on it
abbrev pub drop_node : NodeRow → State → State
drop_node node s = record s {
  nodes = filter (λ (row : NodeRow). not (is_node node.number row)) s.nodes;
  preps = filter (λ (prep : PrepRow). not (nat_eq prep.node node.number)) s.preps;
}

-- the line names the node
abbrev pub node_dropped : State → NodeRow → DueStep
node_dropped s node = record { due = NodeDropped node.number; state = drop_node node s }

-- the first such node
abbrev pub drop_first : State → Option DueStep
drop_first s = option_map (node_dropped s) (find (is_empty_node s) s.nodes)

-- U15: a resizing pool with fewer nodes than its target gets one on the lowest free seat, which begins its start task

-- not deleted, resizing, with fewer staying nodes than its target
abbrev pub lacks_node : State → PoolRow → Bool
lacks_node s pool = not pool.deleting && is_resizing pool.alloc && nat_lt (staying_count s pool.id) pool.dedicated

-- a node is starting if the start task is waited for, and else usable at once
abbrev pub first_stage : PoolRow → NodeStage
first_stage pool = if waits_for_start pool then Starting else Usable

-- a node of the pool on a seat, with the next number
abbrev pub new_node : State → PoolRow → ℕ → NodeRow
new_node s in_pool on_seat = record { number = s.next_node; pool = in_pool.id; seat = on_seat; stage = first_stage in_pool; tries = 0 }

-- with a start task a start run is queued on the node
abbrev pub begin_start : Option StartTask → NodeRow → State → State
begin_start None node s = s
begin_start (Some start) node s = add_run_row (start_run s node start) s

-- the tables with the node, whose start task is begun
abbrev pub with_node : PoolRow → NodeRow → State → State
with_node pool node s = begin_start pool.start node (add_node_row node s)

-- the line names the pool, the node and its seat
abbrev pub node_added : State → ℕ → PoolRow → DueStep
node_added s seat pool = record { due = NodeAdded pool.id s.next_node seat; state = with_node pool (new_node s pool seat) s }

-- the first such pool gets a node on the seat
abbrev pub add_on : State → ℕ → Option DueStep
add_on s seat = option_map (node_added s seat) (find (lacks_node s) s.pools)

-- on the lowest free seat, while node and run numbers last
abbrev pub add_node : ℕ → State → Option DueStep
add_node seats s = only_if (has_number_left s.next_run && has_number_left s.next_node) (option_and_then (add_on s) (free_seat seats s))

-- the rules of nodes: one that leaves is dropped (U14), and one is added (U15)
abbrev pub node_step : ℕ → State → Option DueStep
node_step seats s = first_of (drop_first s ∷ add_node seats s ∷ [])

-- U16: the first task in the order of placing that fits is placed: of the job of higher priority, then of the earlier job

-- the first rule that applies; none is rest
abbrev pub due_step : ℕ → State → Option DueStep
due_step seats s = first_of (sample_first s ∷ job_step s ∷ pool_step s ∷ node_step seats s ∷ place_first s ∷ [])
