-- Events: their refusals in order, their statuses and what they do. A task of several instances is not built: NotBuilt.
-- Source: Azure Batch REST reference, an operation each, with its error codes; runs, ticks and orders are this project's own.
use Rattle.std.specs.Prelude.{ℕ, Bool, true, false, not, ◌&&◌, ◌||◌, nat_lt, nat_le, max, List, [], ◌∷◌, length, codes, Option, Some, None, is_some, unwrap_or, if◌then◌else◌}
use Rattle.std.specs.Option.{option_map_or}
use Rattle.std.specs.List.{list_any}
use Rattle.bt_rows.specs.declared.event.EventKind.{EventKind}
use Rattle.bt_rows.specs.declared.event.EventKind.TheVariants.{AddPool, DeletePool, Resize, StopResize, EnableAutoscale, DisableAutoscale, EvaluateAutoscale, AddJob, PatchJob, DisableJob, EnableJob, TerminateJob, DeleteJob, AddTask, AddTasks}
use Rattle.bt_rows.specs.declared.event.EventKind.TheVariants.{DeleteTask, TerminateTask, ReactivateTask, Take, End, Sample, Tick}
use Rattle.bt_rows.specs.declared.event.PoolSpec.{PoolSpec}
use Rattle.bt_rows.specs.declared.event.JobSpec.{JobSpec}
use Rattle.bt_rows.specs.declared.event.Limits.{Limits}
use Rattle.bt_rows.specs.declared.event.JobPatch.{JobPatch}
use Rattle.bt_rows.specs.declared.event.DisableTasks.{DisableTasks}
use Rattle.bt_rows.specs.declared.event.TaskSpec.{TaskSpec}
use Rattle.bt_rows.specs.declared.refusal.Table.TheVariants.{Pools, Jobs, Tasks}
use Rattle.bt_rows.specs.declared.refusal.Refusal.{Refusal}
use Rattle.bt_rows.specs.declared.refusal.Refusal.TheVariants.{PoolNotFound, PoolExists, PoolBeingDeleted, JobNotFound, JobExists, JobStateRefuses}
use Rattle.bt_rows.specs.declared.refusal.Refusal.TheVariants.{TaskNotFound, TaskExists, TaskCompleted, TaskNotReactivable, DependenciesOff, JobActionOff}
use Rattle.bt_rows.specs.declared.refusal.Refusal.TheVariants.{DependencyListTooLong, CollectionTooLong, RunNotFound, RunAlreadyEnded, RunAlreadyTaken}
use Rattle.bt_rows.specs.declared.refusal.Refusal.TheVariants.{RunNotTaken, RunWithdrawn, RunWaiting, TableFull, TerminationEngaged}
use Rattle.bt_rows.specs.declared.reply.Element.{Element}
use Rattle.bt_rows.specs.declared.reply.Element.TheVariants.{Added, NotAdded}
use Rattle.bt_rows.specs.declared.reply.Reply.TheVariants.{Elements}
use Rattle.batch_model.specs.Finding.{is_empty, first_of, at_row, names}
use Rattle.batch_model.specs.Rows.{is_task, is_run, pool_of, job_of, task_of, run_of, put_job, put_task, add_pool_row, add_job_row, add_task_row}
use Rattle.batch_model.specs.Rows.{change_tasks, change_runs, change_preps}
use Rattle.batch_model.specs.Runs.{is_waiting, is_taken, is_ended, is_withdrawn, is_work, is_at_prep}
use Rattle.batch_model.specs.Tasks.{is_placed, is_completed, terminated, new_task}
use Rattle.batch_model.specs.Jobs.{is_past, is_disabled, is_job_deleting, can_disable, job_in, new_job}
use Rattle.batch_model.specs.Stops.{stop, disable, close, terminate}
use Rattle.batch_model.specs.Settling.{drop_task}
use Rattle.batch_model.specs.Pools.{new_pool}
use Rattle.batch_model.specs.Starts.{start_ended}
use Rattle.batch_model.specs.Preparing.{preparation_ended, release_ended}
use Rattle.batch_model.specs.Limits.{pool_limit, job_limit, task_limit, collection_limit, needs_limit}
use Rattle.batch_model.specs.WellFormed.{needs_length}
use Rattle.batch_model.specs.NotBuilt.{not_built}
use Rattle.batch_model.specs.Steps.{Answered, refuse_if}
-- answers, and the events of pools that are there
pub use Rattle.batch_model.specs.Answers.{refuse, accept, answer, for_row}
use Rattle.batch_model.specs.PoolEvents.{resize_pool, stop_resize, delete_pool}
use Rattle.batch_model.specs.Scaling.{given_refusal, add_given_scale, enable_autoscale, disable_autoscale, evaluate_autoscale, sample_pool}
use Rattle.batch_model.specs.Variants.{State, PoolRow, JobRow, Enabling, Deleting, Given, TaskRow, Active, WantTerminate, WantDelete, Closed, Ending, RunRow, RunKind, StartRun, PrepRun, TaskRun, CoordinationRun, ReleaseRun, Taken, PrepRow}
use Rattle.batch_model.specs.Variants.{Ended}

-- why a pool is not added, in order
abbrev pub add_pool_refusals : State → PoolSpec → List (Option Refusal)
add_pool_refusals s spec =
    refuse_if (is_some (pool_of s spec.id)) PoolExists
    ∷ refuse_if (nat_le pool_limit (length s.pools)) (TableFull Pools pool_limit)
    ∷ given_refusal spec.scale
    ∷ []

-- the pool is there, and scales as it is told, if it is
abbrev pub pool_added : State → PoolSpec → State
pool_added s spec = add_given_scale spec.id spec.scale (add_pool_row (new_pool s.moment spec) s)

-- `add-pool`
abbrev pub add_pool : State → PoolSpec → Answered
add_pool s spec = answer s (add_pool_refusals s spec) 201 (pool_added s spec)

-- why no job is added in a pool that is there, in order
abbrev pub add_job_refusals : State → PoolRow → List (Option Refusal)
add_job_refusals s pool =
    refuse_if pool.deleting PoolBeingDeleted
    ∷ refuse_if (nat_le job_limit (length s.jobs)) (TableFull Jobs job_limit)
    ∷ []

-- in the pool that was found
abbrev pub add_job_in : State → List ℕ → JobSpec → PoolRow → Answered
add_job_in s id spec pool = answer s (add_job_refusals s pool) 201 (add_job_row (new_job s.moment id pool.id spec) s)

-- `add-job`: a new job has the id of its pool as the pool spells it
abbrev pub add_job : State → List ℕ → JobSpec → Answered
add_job s id spec = for_new (is_some (job_of s id))
  where
    for_new : Bool → Answered
    for_new true = refuse JobExists s
    for_new false = for_row s PoolNotFound (add_job_in s id spec) (pool_of s spec.pool)

-- the given limits in place of the old ones
abbrev pub limited : Limits → JobRow → JobRow
limited limits job = record job { retries = limits.retries; wall = limits.wall }

-- the given values in place of the old ones
abbrev pub patched : JobPatch → JobRow → JobRow
patched patch job = record (at_row limited patch.limits job) {
  priority = unwrap_or patch.priority job.priority;
  parallel = unwrap_or patch.parallel job.parallel;
  on_all = unwrap_or patch.on_all job.on_all;
}

-- a job that is terminated with its tasks is told not to be
abbrev pub takes_end_back : JobPatch → JobRow → Bool
takes_end_back patch job = job.on_all && not (unwrap_or patch.on_all true)

-- why a job is not changed, in order
abbrev pub patch_refusals : JobPatch → JobRow → List (Option Refusal)
patch_refusals patch job =
    refuse_if (is_past job.state) (JobStateRefuses job.state)
    ∷ refuse_if (takes_end_back patch job) TerminationEngaged
    ∷ []

-- `patch-job`
abbrev pub patch_job : State → JobPatch → JobRow → Answered
patch_job s patch job = answer s (patch_refusals patch job) 200 (put_job (patched patch job) s)

-- why a job is not disabled
abbrev pub disable_refusals : JobRow → List (Option Refusal)
disable_refusals job = refuse_if (not (can_disable job.state)) (JobStateRefuses job.state) ∷ []

-- `disable-job`
abbrev pub disable_job : State → DisableTasks → JobRow → Answered
disable_job s option job = answer s (disable_refusals job) 202 (disable job option s)

-- why a job is not enabled
abbrev pub enable_refusals : JobRow → List (Option Refusal)
enable_refusals job = refuse_if (not (is_disabled job.state)) (JobStateRefuses job.state) ∷ []

-- `enable-job`
abbrev pub enable_job : State → JobRow → Answered
enable_job s job = answer s (enable_refusals job) 202 (put_job (job_in Enabling job) s)

-- the reason if a request gives none
unfoldable pub user_terminate : List ℕ
user_terminate = codes "UserTerminate"

-- why a job is not terminated
abbrev pub terminate_refusals : JobRow → List (Option Refusal)
terminate_refusals job = refuse_if (is_past job.state) (JobStateRefuses job.state) ∷ []

-- `terminate-job`
abbrev pub terminate_job : State → Option (List ℕ) → JobRow → Answered
terminate_job s reason job = answer s (terminate_refusals job) 202 (terminate (unwrap_or reason user_terminate) job s)

-- why a job is not deleted
abbrev pub delete_refusals : JobRow → List (Option Refusal)
delete_refusals job = refuse_if (is_job_deleting job.state) (JobStateRefuses job.state) ∷ []

-- `delete-job`: terminated, with a state of its own; an earlier reason goes
abbrev pub delete_job : State → JobRow → Answered
delete_job s job = answer s (delete_refusals job) 202 (close Deleting user_terminate job s)

-- the ids that the task depends on have more characters together than the limit
abbrev pub has_long_needs : TaskSpec → Bool
has_long_needs spec = not (nat_le (needs_length spec.needs) needs_limit)

-- exit options that the task states pass the test
abbrev pub has_given : (Given → Bool) → TaskSpec → Bool
has_given test spec =
    list_any (λ entry. test entry.1) spec.codes || list_any (λ entry. test entry.2) spec.ranges
    || option_map_or test spec.launch false || option_map_or test spec.other false

-- the options say whether dependent tasks may go on (Azure: dependencyAction)
abbrev pub has_dependency_action : Given → Bool
has_dependency_action options = is_some options.satisfies

-- the options say what becomes of the job (Azure: jobAction)
abbrev pub has_job_action : Given → Bool
has_job_action options = is_some options.job

-- the task depends on others, or says whether those that depend on it may go on
abbrev pub uses_dependencies : TaskSpec → Bool
uses_dependencies spec = not (is_empty spec.needs) || not (is_empty spec.spans) || has_given has_dependency_action spec

-- why a job that is not past does not take the task, in order; a task with instances is not built, nor that it is to require one slot
abbrev pub task_refusals : State → JobRow → TaskSpec → List (Option Refusal)
task_refusals s job spec =
    refuse_if (is_some spec.multi) not_built
    ∷ refuse_if (is_some (task_of s job.id spec.id)) TaskExists
    ∷ refuse_if (uses_dependencies spec && not job.deps) DependenciesOff
    ∷ refuse_if (has_long_needs spec) DependencyListTooLong
    ∷ refuse_if (has_given has_job_action spec && not job.on_fail) JobActionOff
    ∷ refuse_if (nat_le task_limit (length s.tasks)) (TableFull Tasks task_limit)
    ∷ []

-- a new task has the id of its job as the job spells it
abbrev pub task_added : State → JobRow → TaskSpec → State
task_added s job spec = add_task_row (new_task job.id spec) s

-- `add-task`
abbrev pub add_task : State → TaskSpec → JobRow → Answered
add_task s spec job = answer s (refuse_if (is_past job.state) (JobStateRefuses job.state) ∷ task_refusals s job spec) 201 (task_added s job spec)

-- the answers to the elements of a collection, and the tables after them
pub record AddedAll : Type 0 where
  pub elements : List Element
  pub state : State

-- the answer to one element
abbrev pub element_of : TaskSpec → Option Refusal → Element
element_of spec None = Added spec.id
element_of spec (Some refusal) = NotAdded spec.id refusal

-- the tables after one element; a refused one leaves them
abbrev pub after_element : State → JobRow → TaskSpec → Option Refusal → State
after_element s job spec None = task_added s job spec
after_element s job spec (Some refusal) = s

-- the elements after the first
abbrev pub with_element : Element → AddedAll → AddedAll
with_element first others = record { elements = first ∷ others.elements; state = others.state }

-- each element in order, as if it came alone
abbrev pub add_each : State → JobRow → List TaskSpec → AddedAll
add_each s job [] = record { elements = []; state = s }
add_each s job (spec ∷ specs) =
    with_element (element_of spec (first_of (task_refusals s job spec)))
    (add_each (after_element s job spec (first_of (task_refusals s job spec))) job specs)

-- the answer to a collection
abbrev pub accept_all : AddedAll → Answered
accept_all added = record { reply = Elements added.elements; state = added.state }

-- why no task of a collection is added, in order
abbrev pub add_tasks_refusals : JobRow → List TaskSpec → List (Option Refusal)
add_tasks_refusals job specs =
    refuse_if (is_past job.state) (JobStateRefuses job.state)
    ∷ refuse_if (nat_lt collection_limit (length specs)) CollectionTooLong
    ∷ []

-- `add-tasks`
abbrev pub add_tasks : State → List TaskSpec → JobRow → Answered
add_tasks s specs job = option_map_or (λ refusal. refuse refusal s) (first_of (add_tasks_refusals job specs)) (accept_all (add_each s job specs))

-- a placed task is dropped once its runs have ended, and another at once with its runs
abbrev pub task_deleted : State → TaskRow → State
task_deleted s task = if is_placed task.stage then stop (is_task task.job task.id) WantDelete s else drop_task task s

-- the task that was found is deleted
abbrev pub delete_found : State → TaskRow → Answered
delete_found s task = accept 200 (task_deleted s task)

-- why no task of the job is deleted
abbrev pub delete_task_refusals : JobRow → List (Option Refusal)
delete_task_refusals job = refuse_if (is_job_deleting job.state) (JobStateRefuses job.state) ∷ []

-- `delete-task`
abbrev pub delete_task : State → List ℕ → JobRow → Answered
delete_task s id job =
    option_map_or (λ refusal. refuse refusal s) (first_of (delete_task_refusals job)) (for_row s TaskNotFound (delete_found s) (task_of s job.id id))

-- a placed task is terminated once its runs have ended, and an active one at once
abbrev pub task_terminated : State → TaskRow → State
task_terminated s task =
    if is_placed task.stage then stop (is_task task.job task.id) WantTerminate s else put_task (terminated s.moment task) s

-- why a task is not terminated
abbrev pub terminate_task_refusals : TaskRow → List (Option Refusal)
terminate_task_refusals task = refuse_if (is_completed task.stage) TaskCompleted ∷ []

-- the task that was found is terminated
abbrev pub terminate_found : State → TaskRow → Answered
terminate_found s task = answer s (terminate_task_refusals task) 204 (task_terminated s task)

-- `terminate-task`
abbrev pub terminate_task : State → List ℕ → JobRow → Answered
terminate_task s id job = for_row s TaskNotFound (terminate_found s) (task_of s job.id id)

-- a completed task that had no success
abbrev pub can_reactivate : TaskRow → Bool
can_reactivate task = is_completed task.stage && not (option_map_or (λ (closed : Closed). closed.success) task.closed false)

-- active again, without failures
abbrev pub reactivated : TaskRow → TaskRow
reactivated task = record task { stage = Active; failures = 0; closed = None }

-- why a task is not reactivated
abbrev pub reactivate_refusals : TaskRow → List (Option Refusal)
reactivate_refusals task = refuse_if (not (can_reactivate task)) TaskNotReactivable ∷ []

-- the task that was found is reactivated
abbrev pub reactivate_found : State → TaskRow → Answered
reactivate_found s task = answer s (reactivate_refusals task) 204 (put_task (reactivated task) s)

-- why no task of the job is reactivated
abbrev pub reactivate_task_refusals : JobRow → List (Option Refusal)
reactivate_task_refusals job = refuse_if (is_past job.state) (JobStateRefuses job.state) ∷ []

-- `reactivate-task`
abbrev pub reactivate_task : State → List ℕ → JobRow → Answered
reactivate_task s id job =
    option_map_or (λ refusal. refuse refusal s) (first_of (reactivate_task_refusals job))
    (for_row s TaskNotFound (reactivate_found s) (task_of s job.id id))

-- taken now
abbrev pub taken_run : ℕ → RunRow → RunRow
taken_run now run = record run { state = Taken; taken = Some now }

-- a task without a start moment gets one
abbrev pub started_task : ℕ → TaskRow → TaskRow
started_task now task = record task { started = Some (unwrap_or task.started now) }

-- the task that the run names
abbrev pub is_task_of_run : RunRow → TaskRow → Bool
is_task_of_run run task = names run.job task.job && names run.task task.id

-- a task of the preparation's job was started on its node
abbrev pub served : PrepRow → PrepRow
served prep = record prep { ran = true }

-- the run is a task's, and its job's preparation on its node is this one
abbrev pub is_prep_of_work : RunRow → PrepRow → Bool
is_prep_of_work run prep = is_work run.kind && is_at_prep prep run

-- the run is taken, its task has started, and the preparation of its job on its node has served
abbrev pub run_taken : State → RunRow → State
run_taken s run =
    change_preps (is_prep_of_work run) served
    (change_tasks (is_task_of_run run) (started_task s.moment)
    (change_runs (is_run run.number) (taken_run s.moment) s))

-- why a run is not taken, in order
abbrev pub take_refusals : RunRow → List (Option Refusal)
take_refusals run =
    refuse_if (is_ended run.state) RunAlreadyEnded
    ∷ refuse_if (is_withdrawn run.state) RunWithdrawn
    ∷ refuse_if (is_taken run.state) RunAlreadyTaken
    ∷ refuse_if (is_waiting run.state) RunWaiting
    ∷ []

-- `take`
abbrev pub take_run : State → RunRow → Answered
take_run s run = answer s (take_refusals run) 200 (run_taken s run)

-- ended now
abbrev pub ended_run : ℕ → Ending → RunRow → RunRow
ended_run now ending run = record run { state = Ended ending; ended = Some now }

-- what else the ending of a run of this kind does: that of a start run changes its node, that of a preparation or release run
-- its preparation, and a task is settled by a due step
abbrev pub ended_by : RunKind → RunRow → Ending → State → State
ended_by StartRun run ending s = start_ended run ending s
ended_by PrepRun run ending s = preparation_ended run ending s
ended_by TaskRun run ending s = s
ended_by CoordinationRun run ending s = s
ended_by ReleaseRun run ending s = release_ended run s

-- the run has ended, and then its kind decides
abbrev pub run_ended : State → Ending → RunRow → State
run_ended s ending run = ended_by run.kind run ending (change_runs (is_run run.number) (ended_run s.moment ending) s)

-- why a run does not end, in order
abbrev pub end_refusals : RunRow → List (Option Refusal)
end_refusals run =
    refuse_if (is_ended run.state) RunAlreadyEnded
    ∷ refuse_if (is_withdrawn run.state) RunWithdrawn
    ∷ refuse_if (not (is_taken run.state)) RunNotTaken
    ∷ []

-- `end`
abbrev pub end_run : State → Ending → RunRow → Answered
end_run s ending run = answer s (end_refusals run) 200 (run_ended s ending run)

-- the event at the tables' moment
abbrev pub event_now : EventKind → State → Answered
event_now (AddPool spec) s = add_pool s spec
event_now (DeletePool pool) s = for_row s PoolNotFound (delete_pool s) (pool_of s pool)
event_now (Resize pool spec) s = for_row s PoolNotFound (resize_pool s spec) (pool_of s pool)
event_now (StopResize pool) s = for_row s PoolNotFound (stop_resize s) (pool_of s pool)
event_now (EnableAutoscale pool spec) s = for_row s PoolNotFound (enable_autoscale s spec) (pool_of s pool)
event_now (DisableAutoscale pool) s = for_row s PoolNotFound (disable_autoscale s) (pool_of s pool)
event_now (EvaluateAutoscale pool formula) s = for_row s PoolNotFound (evaluate_autoscale s formula) (pool_of s pool)
event_now (AddJob job spec) s = add_job s job spec
event_now (PatchJob job patch) s = for_row s JobNotFound (patch_job s patch) (job_of s job)
event_now (DisableJob job option) s = for_row s JobNotFound (disable_job s option) (job_of s job)
event_now (EnableJob job) s = for_row s JobNotFound (enable_job s) (job_of s job)
event_now (TerminateJob job reason) s = for_row s JobNotFound (terminate_job s reason) (job_of s job)
event_now (DeleteJob job) s = for_row s JobNotFound (delete_job s) (job_of s job)
event_now (AddTask job spec) s = for_row s JobNotFound (add_task s spec) (job_of s job)
event_now (AddTasks job specs) s = for_row s JobNotFound (add_tasks s specs) (job_of s job)
event_now (DeleteTask job task) s = for_row s JobNotFound (delete_task s task) (job_of s job)
event_now (TerminateTask job task) s = for_row s JobNotFound (terminate_task s task) (job_of s job)
event_now (ReactivateTask job task) s = for_row s JobNotFound (reactivate_task s task) (job_of s job)
event_now (Take run) s = for_row s RunNotFound (take_run s) (run_of s run)
event_now (End run ending) s = for_row s RunNotFound (end_run s ending) (run_of s run)
event_now (Sample pool percentage) s = for_row s PoolNotFound (sample_pool s percentage) (pool_of s pool)
event_now Tick s = accept 200 s

-- the last moment first becomes the greater of itself and the event's
abbrev pub at_moment : ℕ → State → State
at_moment now s = record s { moment = max s.moment now }

-- a refusal changes the last moment alone
abbrev pub event_step : ℕ → EventKind → State → Answered
event_step moment event s = event_now event (at_moment moment s)
