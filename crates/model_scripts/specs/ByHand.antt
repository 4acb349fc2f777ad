-- Steps from tables that no script reaches yet: those that a script leaves, with a value changed.
use Rattle.std.specs.Prelude.{ℕ, ◌+◌, ◌^◌, List, [], ◌∷◌, map, Option, Some, None, pos, codes, true}
use Rattle.std.specs.Option.{option_map}
use Rattle.bt_rows.specs.declared.event.EventKind.{EventKind}
use Rattle.bt_rows.specs.declared.event.EventKind.TheVariants.{AddPool, AddJob, AddTask, Take, End}
use Rattle.bt_rows.specs.declared.reply.Reply.{Reply}
use Rattle.bt_rows.specs.declared.reply.Reply.TheVariants.{Status, Refused}
use Rattle.bt_rows.specs.declared.refusal.Refusal.TheVariants as refusal
use Rattle.bt_rows.specs.declared.due.Outcome.TheVariants.{Deleted, Success, Failure, Again}
use Rattle.bt_rows.specs.declared.due.JobEnd.TheVariants.{Kept, Removed}
use Rattle.bt_rows.specs.declared.due.ResizeEnd.TheVariants.{Removed as PoolRemoved, Reached, TimedOut, Stopped}
use Rattle.bt_rows.specs.declared.due.Due.{Due}
use Rattle.bt_rows.specs.declared.due.Due.TheVariants.{TaskSettled, JobEnabled, JobDisabled, JobEnded, PoolResized, NodeDropped, NodeAdded, TaskPlaced}
use Rattle.batch_model.specs.Variants.{State, empty_state, Alloc, Steady, Resizing, Stopping, ByRequeue, PoolRow, NodeStage, Starting, StartFailed, Leaving}
use Rattle.batch_model.specs.Variants.{NodeRow, JobState, JobActive, Disabling, Disabled, Enabling, Terminating, JobCompleted, Deleting, JobRow, Want}
use Rattle.batch_model.specs.Variants.{WantRequeue, WantTerminate, WantWall, WantDelete, TaskRow, Code, RunState, Waiting, Queued, Taken, Ended, Withdrawn}
use Rattle.batch_model.specs.Variants.{RunRow}
use Rattle.batch_model.specs.Steps.{DueStep}
use Rattle.batch_model.specs.Dues.{due_step}
use Rattle.batch_model.specs.Events.{event_step}
use Rattle.model_scripts.specs.Scripts.{at, rest, seat_count, state_after}
use Rattle.model_scripts.specs.Bodies.{pool_body, job_body, task_body}

-- the reply to an event at the tables' moment
abbrev pub reply_to : State → EventKind → Reply
reply_to s event = (event_step s.moment event s).reply

-- the tables after events without due steps
abbrev pub after_events : List EventKind → State → State
after_events [] s = s
after_events (event ∷ events) s = after_events events (event_step s.moment event s).state

-- the due step's line
abbrev pub due_of : State → Option Due
due_of s = option_map (λ (step : DueStep). step.due) (due_step seat_count s)

-- the lines of due steps to rest
abbrev pub dues_of : State → List Due
dues_of s = (rest 40 seat_count s).dues

-- a task is placed on the one node of a pool
abbrev pub placed_task : State
placed_task = state_after
    (at 0 (AddPool (pool_body (codes "p") 1))
    ∷ at 0 (AddJob (codes "j") (job_body (codes "p")))
    ∷ at 0 (AddTask (codes "j") (task_body (codes "t")))
    ∷ [])

-- a pool of one node and a job, and a task to place
abbrev pub task_to_place : State
task_to_place = after_events (AddTask (codes "j") (task_body (codes "t")) ∷ []) (state_after
    (at 0 (AddPool (pool_body (codes "p") 1))
    ∷ at 0 (AddJob (codes "j") (job_body (codes "p")))
    ∷ []))

-- changed tables

abbrev pub with_runs_in : RunState → State → State
with_runs_in one s = record s { runs = map (λ (run : RunRow). record run { state = one }) s.runs }

abbrev pub with_nodes_in : NodeStage → State → State
with_nodes_in one s = record s { nodes = map (λ (node : NodeRow). record node { stage = one }) s.nodes }

abbrev pub with_jobs_in : JobState → State → State
with_jobs_in one s = record s { jobs = map (λ (job : JobRow). record job { state = one }) s.jobs }

abbrev pub with_pools_in : Alloc → State → State
with_pools_in one s = record s { pools = map (λ (pool : PoolRow). record pool { alloc = one }) s.pools }

abbrev pub with_pools_deleted : State → State
with_pools_deleted s = record s { pools = map (λ (pool : PoolRow). record pool { deleting = true }) s.pools }

abbrev pub moved_to : ℕ → State → State
moved_to now s = record s { moment = now }

-- runs that can be taken or ended

abbrev pub run_states : List RunState
run_states = Waiting ∷ Queued ∷ Taken ∷ Ended (Code (pos 0)) ∷ Withdrawn ∷ []

abbrev pub replies_to_takes : List Reply
replies_to_takes = map (λ one. reply_to (with_runs_in one placed_task) (Take 1)) run_states

abbrev pub all_takes : List Reply
all_takes =
    Refused refusal.RunWaiting
    ∷ Status 200
    ∷ Refused refusal.RunAlreadyTaken
    ∷ Refused refusal.RunAlreadyEnded
    ∷ Refused refusal.RunWithdrawn
    ∷ []

abbrev pub replies_to_ends : List Reply
replies_to_ends = map (λ one. reply_to (with_runs_in one placed_task) (End 1 (Code (pos 0)))) run_states

abbrev pub all_ends : List Reply
all_ends =
    Refused refusal.RunNotTaken
    ∷ Refused refusal.RunNotTaken
    ∷ Status 200
    ∷ Refused refusal.RunAlreadyEnded
    ∷ Refused refusal.RunWithdrawn
    ∷ []

-- jobs that take tasks

abbrev pub job_states : List JobState
job_states = JobActive ∷ Disabling ∷ Disabled ∷ Enabling ∷ Terminating ∷ JobCompleted ∷ Deleting ∷ []

abbrev pub replies_to_new_task : List Reply
replies_to_new_task = map (λ one. reply_to (with_jobs_in one placed_task) (AddTask (codes "j") (task_body (codes "u")))) job_states

abbrev pub all_new_task : List Reply
all_new_task =
    Status 201
    ∷ Status 201
    ∷ Status 201
    ∷ Status 201
    ∷ Refused (refusal.JobStateRefuses Terminating)
    ∷ Refused (refusal.JobStateRefuses JobCompleted)
    ∷ Refused (refusal.JobStateRefuses Deleting)
    ∷ []

-- the state is looked at before the task
abbrev pub reply_to_old_task : Reply
reply_to_old_task = reply_to (with_jobs_in JobCompleted placed_task) (AddTask (codes "j") (task_body (codes "t")))

abbrev pub is_finished : Reply
is_finished = Refused (refusal.JobStateRefuses JobCompleted)

-- a pool that is being deleted

abbrev pub reply_in_deleted_pool : Reply
reply_in_deleted_pool = reply_to (with_pools_deleted placed_task) (AddJob (codes "k") (job_body (codes "p")))

abbrev pub is_being_deleted : Reply
is_being_deleted = Refused refusal.PoolBeingDeleted

-- the order of the rules

-- two pools, a job and a task, before any due step
abbrev pub fresh : State
fresh = after_events
    (AddPool (pool_body (codes "p") 1)
    ∷ AddPool (pool_body (codes "q") 1)
    ∷ AddJob (codes "j") (job_body (codes "p"))
    ∷ AddTask (codes "j") (task_body (codes "t"))
    ∷ []) empty_state

abbrev pub dues_of_fresh : List Due
dues_of_fresh = dues_of fresh

abbrev pub fresh_dues : List Due
fresh_dues =
    NodeAdded (codes "p") 1 1
    ∷ PoolResized (codes "p") Reached
    ∷ NodeAdded (codes "q") 2 2
    ∷ PoolResized (codes "q") Reached
    ∷ TaskPlaced (codes "j") (codes "t") 1 1
    ∷ []

-- a task that has ended, a resizing pool that has its node, another one without its node, and a task to place
abbrev pub mixed : State
mixed = after_events
    (Take 1
    ∷ End 1 (Code (pos 0))
    ∷ AddPool (pool_body (codes "q") 1)
    ∷ AddTask (codes "j") (task_body (codes "u"))
    ∷ []) (with_pools_in Resizing placed_task)

abbrev pub dues_of_mixed : List Due
dues_of_mixed = dues_of mixed

abbrev pub mixed_dues : List Due
mixed_dues =
    TaskSettled (codes "j") (codes "t") Success
    ∷ PoolResized (codes "p") Reached
    ∷ NodeAdded (codes "q") 2 2
    ∷ PoolResized (codes "q") Reached
    ∷ TaskPlaced (codes "j") (codes "u") 1 2
    ∷ []

-- pools that get nodes

-- a pool that lacks a node
abbrev pub lacking : State
lacking = after_events (AddPool (pool_body (codes "p") 1) ∷ []) empty_state

abbrev pub due_of_steady : Option Due
due_of_steady = due_of (with_pools_in Steady lacking)

abbrev pub due_of_stopping : Option Due
due_of_stopping = due_of (with_pools_in Stopping lacking)

abbrev pub stopped_due : Option Due
stopped_due = Some (PoolResized (codes "p") Stopped)

abbrev pub due_of_deleted : Option Due
due_of_deleted = due_of (with_pools_deleted lacking)

abbrev pub removed_due : Option Due
removed_due = Some (PoolResized (codes "p") PoolRemoved)

-- the ends of a resize

-- a pool that has its node counts as such, also where its timeout is over
abbrev pub due_of_reached : Option Due
due_of_reached = due_of (moved_to 900000 (with_pools_in Resizing placed_task))

abbrev pub reached_due : Option Due
reached_due = Some (PoolResized (codes "p") Reached)

-- a pool that lacks a node gets none where its timeout is over
abbrev pub due_of_late : Option Due
due_of_late = due_of (moved_to 900000 lacking)

abbrev pub timed_out_due : Option Due
timed_out_due = Some (PoolResized (codes "p") TimedOut)

-- one that is being deleted and has its node neither counts as such nor times out, and a steady one does not time out
abbrev pub due_of_late_deleted : Option Due
due_of_late_deleted = due_of (with_pools_deleted (moved_to 900000 (with_pools_in Resizing placed_task)))

abbrev pub due_of_late_steady : Option Due
due_of_late_steady = due_of (with_pools_in Steady (moved_to 900000 lacking))

-- wanted ends of a task whose main run has ended

-- each task with this wanted end, after two failures
abbrev pub with_wanted : Option Want → State → State
with_wanted want s = record s { tasks = map (λ (task : TaskRow). record task { wanted = want; failures = 2 }) s.tasks }

-- the task's main run has ended
abbrev pub over : State
over = with_runs_in (Ended (Code (pos 0))) placed_task

abbrev pub wants : List (Option Want)
wants = None ∷ Some WantRequeue ∷ Some WantTerminate ∷ Some WantWall ∷ Some WantDelete ∷ []

abbrev pub dues_by_want : List (Option Due)
dues_by_want = map (λ want. due_of (with_wanted want over)) wants

abbrev pub all_by_want : List (Option Due)
all_by_want =
    Some (TaskSettled (codes "j") (codes "t") Success)
    ∷ Some (TaskSettled (codes "j") (codes "t") (Again 2))
    ∷ Some (TaskSettled (codes "j") (codes "t") Failure)
    ∷ Some (TaskSettled (codes "j") (codes "t") Failure)
    ∷ Some (TaskSettled (codes "j") (codes "t") Deleted)
    ∷ []

-- a task that runs is not requeued yet
abbrev pub due_while_running : Option Due
due_while_running = due_of (with_wanted (Some WantRequeue) placed_task)

-- a refusal

abbrev pub after_refusal : State
after_refusal = (event_step 7 (AddPool (pool_body (codes "P") 2)) lacking).state

abbrev pub moved_alone : State
moved_alone = moved_to 7 lacking

-- leaving nodes

abbrev pub dues_of_leaving : List Due
dues_of_leaving = dues_of (with_nodes_in (Leaving ByRequeue) (with_pools_in Resizing placed_task))

abbrev pub leaving_dues : List Due
leaving_dues = NodeAdded (codes "p") 2 2 ∷ []

-- nodes that tasks go on

abbrev pub due_on_starting : Option Due
due_on_starting = due_of (with_nodes_in Starting task_to_place)

abbrev pub due_on_failed : Option Due
due_on_failed = due_of (with_nodes_in StartFailed task_to_place)

-- a node that leaves is dropped
abbrev pub dues_on_leaving : List Due
dues_on_leaving = dues_of (with_nodes_in (Leaving ByRequeue) task_to_place)

abbrev pub dropped_dues : List Due
dropped_dues = NodeDropped 1 ∷ []

abbrev pub due_in_deleted_pool : Option Due
due_in_deleted_pool = due_of (with_pools_deleted task_to_place)

abbrev pub due_on_usable : Option Due
due_on_usable = due_of task_to_place

abbrev pub placed_due : Option Due
placed_due = Some (TaskPlaced (codes "j") (codes "t") 1 1)

-- the due step of a job with an active task, by the job's state: an active job places it, and another goes on by itself if
-- it has nothing to wait for

abbrev pub dues_by_job_state : List (Option Due)
dues_by_job_state = map (λ one. due_of (with_jobs_in one task_to_place)) job_states

abbrev pub all_by_job_state : List (Option Due)
all_by_job_state =
    placed_due
    ∷ Some (JobDisabled (codes "j"))
    ∷ None
    ∷ Some (JobEnabled (codes "j"))
    ∷ Some (JobEnded (codes "j") Kept)
    ∷ None
    ∷ Some (JobEnded (codes "j") Removed)
    ∷ []

-- the last numbers

abbrev pub with_numbers : ℕ → ℕ → State → State
with_numbers node run s = record s { next_node = node; next_run = run }

abbrev pub greatest : ℕ
greatest = 10 ^ 15

abbrev pub due_at_last_number : Option Due
due_at_last_number = due_of (with_numbers greatest greatest lacking)

abbrev pub last_node_due : Option Due
last_node_due = Some (NodeAdded (codes "p") greatest 1)

abbrev pub due_past_last_node : Option Due
due_past_last_node = due_of (with_numbers (greatest + 1) 1 lacking)

abbrev pub due_past_last_run : Option Due
due_past_last_run = due_of (with_numbers 1 (greatest + 1) lacking)

abbrev pub placing_past_last_run : Option Due
placing_past_last_run = due_of (with_numbers 2 (greatest + 1) task_to_place)
