-- Placing of tasks, as far as it is built: tasks without instances.
-- Source: Azure Batch REST reference, priority, maxParallelTasks, requiredSlots, nodeFillType; orders are this project's own.
use Rattle.std.specs.Prelude.{◌+◌, ℕ, Bool, not, ◌&&◌, filter, int_lt, Option, Some, None, is_none, is_some, if◌then◌else◌}
use Rattle.std.specs.Option.{option_map, option_and_then}
use Rattle.bt_rows.specs.declared.due.Due.TheVariants.{TaskPlaced}
use Rattle.bt_rows.specs.Choice.{best, prefers}
use Rattle.batch_model.specs.Finding.{find_map, only_if, is_below, has_number_left}
use Rattle.batch_model.specs.Rows.{pool_of, put_task, add_run_row, add_prep_row}
use Rattle.batch_model.specs.Runs.{job_run, work_run}
use Rattle.batch_model.specs.Tasks.{is_in_job, placed_count}
use Rattle.batch_model.specs.Jobs.{is_job_active}
use Rattle.batch_model.specs.Readiness.{is_ready}
use Rattle.batch_model.specs.Preps.{new_prep, waits_for_preparation, has_preparation, has_failed_preparation, is_prepared_on}
use Rattle.batch_model.specs.Nodes.{is_in_pool, is_usable}
use Rattle.batch_model.specs.Slots.{held_slots, has_free}
use Rattle.batch_model.specs.Steps.{DueStep}
use Rattle.batch_model.specs.Variants.{State, PoolRow, Fill, NodeRow, JobRow, StartTask, TaskRow, Placed, PrepRun, TaskRun, RunState, Waiting, Queued}

-- the job may have one more placed task
abbrev pub has_turn : State → JobRow → Bool
has_turn s job = is_below (placed_count s job.id) job.parallel

-- an active job that may have one more placed task
abbrev pub places_tasks : State → JobRow → Bool
places_tasks s job = is_job_active job.state && has_turn s job

-- a ready task of the job, without instances
abbrev pub is_placeable : State → JobRow → TaskRow → Bool
is_placeable s job task = is_in_job job.id task && is_ready s task && is_none task.multi

-- a preparation of the job that is waited for has failed on the node
abbrev pub is_unprepared : State → JobRow → ℕ → Bool
is_unprepared s job node = waits_for_preparation job && has_failed_preparation s job.id node

-- a usable node of the pool with the needed slots free, on which no preparation of the job that is waited for has failed
abbrev pub fits : State → JobRow → PoolRow → ℕ → NodeRow → Bool
fits s job pool need node =
    is_usable node.stage && is_in_pool pool.id node && has_free s pool need node && not (is_unprepared s job node.number)

-- the fill type prefers the node to the other, by the slots that are held on them and by their numbers
abbrev pub precedes : State → Fill → NodeRow → NodeRow → Bool
precedes s fill node other = prefers fill (held_slots s node.number) node.number (held_slots s other.number) other.number

-- the node of the job's pool on which the needed slots are to be held
abbrev pub choice : State → JobRow → PoolRow → ℕ → Option NodeRow
choice s job pool need = best (precedes s pool.fill) (filter (fits s job pool need) s.nodes)

-- placed, in a new attempt
abbrev pub placed : TaskRow → TaskRow
placed task = record task { stage = Placed; attempt = task.attempt + 1 }

-- the job's preparation begins on the node: its run is queued
abbrev pub begin_preparation : JobRow → NodeRow → StartTask → State → State
begin_preparation job node preparation s =
    add_run_row (job_run s node.number node.pool PrepRun preparation.line job.id) (add_prep_row (new_prep job.id node.number) s)

-- unless the job has no preparation, or it has begun there
abbrev pub prepare_with : Option StartTask → JobRow → NodeRow → State → State
prepare_with None job node s = s
prepare_with (Some preparation) job node s =
    if has_preparation s job.id node.number then s else begin_preparation job node preparation s

-- the job's preparation on the node comes before the task's run
abbrev pub prepare : JobRow → NodeRow → State → State
prepare job node s = prepare_with job.prep job node s

-- a run waits for a preparation that is waited for and not completed
abbrev pub first_state : State → JobRow → NodeRow → RunState
first_state s job node = if is_prepared_on s job node.number then Queued else Waiting

-- the task's run on the node
abbrev pub placed_run : State → JobRow → NodeRow → TaskRow → State
placed_run s job node task = add_run_row (work_run s node task TaskRun task.line task.slots (first_state s job node)) s

-- the node is prepared for the task, and then the task's run is made
abbrev pub place_on : JobRow → NodeRow → TaskRow → State → State
place_on job node task s = placed_run (prepare job node s) job node task

-- the line names the node and the task's run, whose number comes after that of a preparation that begins there
abbrev pub place : State → JobRow → TaskRow → NodeRow → DueStep
place s job task node = record {
  due = TaskPlaced task.job task.id node.number (prepare job node s).next_run;
  state = place_on job node (placed task) (put_task (placed task) s);
}

-- a ready task of the job, on the node that is chosen for its slots
abbrev pub place_task : State → JobRow → PoolRow → TaskRow → Option DueStep
place_task s job pool task = only_if (is_placeable s job task) (option_map (place s job task) (choice s job pool task.slots))

-- the first task of the job that fits
abbrev pub place_in : State → JobRow → PoolRow → Option DueStep
place_in s job pool = only_if (not pool.deleting) (find_map (place_task s job pool) s.tasks)

-- a task of the job, in the job's pool
abbrev pub place_of_job : State → JobRow → Option DueStep
place_of_job s job = only_if (places_tasks s job) (option_and_then (place_in s job) (pool_of s job.pool))

-- a task of the job can be placed
abbrev pub has_placing : State → JobRow → Bool
has_placing s job = is_some (place_of_job s job)

-- the job has a higher priority than the other
abbrev pub is_above : JobRow → JobRow → Bool
is_above job other = int_lt other.priority job.priority

-- of the jobs of which a task can be placed the one of the highest priority, and of several such the earliest
abbrev pub next_job : State → Option JobRow
next_job s = best is_above (filter (has_placing s) s.jobs)

-- a task of that job, while run numbers last
abbrev pub place_first : State → Option DueStep
place_first s = only_if (has_number_left s.next_run) (option_and_then (place_of_job s) (next_job s))
