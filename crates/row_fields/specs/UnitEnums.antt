-- Enums whose variants have no values: all their variants; no two variants of an enum have one name.
use Rattle.std.proofs.Common.{◌≡◌, List, [], ◌∷◌, Result, Ok, refl}
use Rattle.serde_json.specs.Data.{Data}
use Rattle.variant_names.specs.UnitNames.{
  alloc_name,
  fill_name,
  dealloc_name,
  resize_error_name,
  job_state_name,
  job_action_name,
  task_stage_name,
  want_name,
  run_kind_name,
  prep_state_name,
  release_state_name,
  metric_name,
}
use Rattle.row_fields.specs.declared.fault.RowFault.{RowFault}
use Rattle.row_fields.specs.Names.{named_data, named_in}
use Rattle.bt_rows.specs.declared.pool.Alloc.{Alloc}
use Rattle.bt_rows.specs.declared.pool.Alloc.TheVariants as allocs
use Rattle.bt_rows.specs.declared.pool.Fill.{Fill}
use Rattle.bt_rows.specs.declared.pool.Fill.TheVariants as fills
use Rattle.bt_base.specs.declared.dealloc_option.Dealloc.{Dealloc}
use Rattle.bt_base.specs.declared.dealloc_option.Dealloc.TheVariants as deallocs
use Rattle.bt_rows.specs.declared.pool.ResizeError.{ResizeError}
use Rattle.bt_rows.specs.declared.pool.ResizeError.TheVariants as resize_errors
use Rattle.bt_rows.specs.declared.job.JobState.{JobState}
use Rattle.bt_rows.specs.declared.job.JobState.TheVariants as job_states
use Rattle.bt_rows.specs.declared.task.JobAction.{JobAction}
use Rattle.bt_rows.specs.declared.task.JobAction.TheVariants as job_actions
use Rattle.bt_rows.specs.declared.task.TaskStage.{TaskStage}
use Rattle.bt_rows.specs.declared.task.TaskStage.TheVariants as task_stages
use Rattle.bt_rows.specs.declared.task.Want.{Want}
use Rattle.bt_rows.specs.declared.task.Want.TheVariants as wants
use Rattle.bt_rows.specs.declared.run.RunKind.{RunKind}
use Rattle.bt_rows.specs.declared.run.RunKind.TheVariants as run_kinds
use Rattle.bt_rows.specs.declared.prep.PrepState.{PrepState}
use Rattle.bt_rows.specs.declared.prep.PrepState.TheVariants as prep_states
use Rattle.bt_rows.specs.declared.prep.ReleaseState.{ReleaseState}
use Rattle.bt_rows.specs.declared.prep.ReleaseState.TheVariants as release_states
use Rattle.bt_base.specs.declared.pool_metric.Metric.{Metric}
use Rattle.bt_base.specs.declared.pool_metric.Metric.TheVariants as metrics

-- whether a pool is being resized
abbrev pub all_allocs : List Alloc
all_allocs = allocs.Steady ∷ allocs.Resizing ∷ allocs.Stopping ∷ []

abbrev pub alloc_data : Alloc → Data
alloc_data = named_data alloc_name

abbrev pub alloc_in : Data → Result Alloc RowFault
alloc_in = named_in alloc_name all_allocs

pub alloc_back : (x : Alloc) → alloc_in (alloc_data x) ≡ Ok x
unfolding named_in alloc_name
alloc_back allocs.Steady = refl
alloc_back allocs.Resizing = refl
alloc_back allocs.Stopping = refl

-- how tasks are distributed over nodes
abbrev pub all_fills : List Fill
all_fills = fills.Spread ∷ fills.Pack ∷ []

abbrev pub fill_data : Fill → Data
fill_data = named_data fill_name

abbrev pub fill_in : Data → Result Fill RowFault
fill_in = named_in fill_name all_fills

pub fill_back : (x : Fill) → fill_in (fill_data x) ≡ Ok x
unfolding named_in fill_name
fill_back fills.Spread = refl
fill_back fills.Pack = refl

-- what becomes of the tasks of a node that leaves
abbrev pub all_deallocs : List Dealloc
all_deallocs = deallocs.Requeue ∷ deallocs.Terminate ∷ deallocs.TaskCompletion ∷ deallocs.RetainedData ∷ []

abbrev pub dealloc_data : Dealloc → Data
dealloc_data = named_data dealloc_name

abbrev pub dealloc_in : Data → Result Dealloc RowFault
dealloc_in = named_in dealloc_name all_deallocs

pub dealloc_back : (x : Dealloc) → dealloc_in (dealloc_data x) ≡ Ok x
unfolding named_in dealloc_name
dealloc_back deallocs.Requeue = refl
dealloc_back deallocs.Terminate = refl
dealloc_back deallocs.TaskCompletion = refl
dealloc_back deallocs.RetainedData = refl

-- why a resize ended early
abbrev pub all_resize_errors : List ResizeError
all_resize_errors = resize_errors.AllocationTimedOut ∷ resize_errors.ResizeStopped ∷ []

abbrev pub resize_error_data : ResizeError → Data
resize_error_data = named_data resize_error_name

abbrev pub resize_error_in : Data → Result ResizeError RowFault
resize_error_in = named_in resize_error_name all_resize_errors

pub resize_error_back : (x : ResizeError) → resize_error_in (resize_error_data x) ≡ Ok x
unfolding named_in resize_error_name
resize_error_back resize_errors.AllocationTimedOut = refl
resize_error_back resize_errors.ResizeStopped = refl

-- the state of a job
abbrev pub all_job_states : List JobState
all_job_states =
    job_states.Active
    ∷ job_states.Disabling
    ∷ job_states.Disabled
    ∷ job_states.Enabling
    ∷ job_states.Terminating
    ∷ job_states.Completed
    ∷ job_states.Deleting
    ∷ []

abbrev pub job_state_data : JobState → Data
job_state_data = named_data job_state_name

abbrev pub job_state_in : Data → Result JobState RowFault
job_state_in = named_in job_state_name all_job_states

pub job_state_back : (x : JobState) → job_state_in (job_state_data x) ≡ Ok x
unfolding named_in job_state_name
job_state_back job_states.Active = refl
job_state_back job_states.Disabling = refl
job_state_back job_states.Disabled = refl
job_state_back job_states.Enabling = refl
job_state_back job_states.Terminating = refl
job_state_back job_states.Completed = refl
job_state_back job_states.Deleting = refl

-- what an ending does to the job
abbrev pub all_job_actions : List JobAction
all_job_actions = job_actions.Nothing ∷ job_actions.Disable ∷ job_actions.Terminate ∷ []

abbrev pub job_action_data : JobAction → Data
job_action_data = named_data job_action_name

abbrev pub job_action_in : Data → Result JobAction RowFault
job_action_in = named_in job_action_name all_job_actions

pub job_action_back : (x : JobAction) → job_action_in (job_action_data x) ≡ Ok x
unfolding named_in job_action_name
job_action_back job_actions.Nothing = refl
job_action_back job_actions.Disable = refl
job_action_back job_actions.Terminate = refl

-- how far a task has come
abbrev pub all_task_stages : List TaskStage
all_task_stages = task_stages.Active ∷ task_stages.Placed ∷ task_stages.Completed ∷ []

abbrev pub task_stage_data : TaskStage → Data
task_stage_data = named_data task_stage_name

abbrev pub task_stage_in : Data → Result TaskStage RowFault
task_stage_in = named_in task_stage_name all_task_stages

pub task_stage_back : (x : TaskStage) → task_stage_in (task_stage_data x) ≡ Ok x
unfolding named_in task_stage_name
task_stage_back task_stages.Active = refl
task_stage_back task_stages.Placed = refl
task_stage_back task_stages.Completed = refl

-- how a task is to be ended
abbrev pub all_wants : List Want
all_wants = wants.Requeue ∷ wants.Terminate ∷ wants.Wall ∷ wants.Delete ∷ []

abbrev pub want_data : Want → Data
want_data = named_data want_name

abbrev pub want_in : Data → Result Want RowFault
want_in = named_in want_name all_wants

pub want_back : (x : Want) → want_in (want_data x) ≡ Ok x
unfolding named_in want_name
want_back wants.Requeue = refl
want_back wants.Terminate = refl
want_back wants.Wall = refl
want_back wants.Delete = refl

-- what a run executes
abbrev pub all_run_kinds : List RunKind
all_run_kinds = run_kinds.Start ∷ run_kinds.Prep ∷ run_kinds.Task ∷ run_kinds.Coordination ∷ run_kinds.Release ∷ []

abbrev pub run_kind_data : RunKind → Data
run_kind_data = named_data run_kind_name

abbrev pub run_kind_in : Data → Result RunKind RowFault
run_kind_in = named_in run_kind_name all_run_kinds

pub run_kind_back : (x : RunKind) → run_kind_in (run_kind_data x) ≡ Ok x
unfolding named_in run_kind_name
run_kind_back run_kinds.Start = refl
run_kind_back run_kinds.Prep = refl
run_kind_back run_kinds.Task = refl
run_kind_back run_kinds.Coordination = refl
run_kind_back run_kinds.Release = refl

-- the state of a preparation
abbrev pub all_prep_states : List PrepState
all_prep_states = prep_states.Running ∷ prep_states.Completed ∷ prep_states.Failed ∷ []

abbrev pub prep_state_data : PrepState → Data
prep_state_data = named_data prep_state_name

abbrev pub prep_state_in : Data → Result PrepState RowFault
prep_state_in = named_in prep_state_name all_prep_states

pub prep_state_back : (x : PrepState) → prep_state_in (prep_state_data x) ≡ Ok x
unfolding named_in prep_state_name
prep_state_back prep_states.Running = refl
prep_state_back prep_states.Completed = refl
prep_state_back prep_states.Failed = refl

-- the state of a release task
abbrev pub all_release_states : List ReleaseState
all_release_states = release_states.No ∷ release_states.Running ∷ release_states.Done ∷ []

abbrev pub release_state_data : ReleaseState → Data
release_state_data = named_data release_state_name

abbrev pub release_state_in : Data → Result ReleaseState RowFault
release_state_in = named_in release_state_name all_release_states

pub release_state_back : (x : ReleaseState) → release_state_in (release_state_data x) ≡ Ok x
unfolding named_in release_state_name
release_state_back release_states.No = refl
release_state_back release_states.Running = refl
release_state_back release_states.Done = refl

-- a metric of a pool
abbrev pub all_metrics : List Metric
all_metrics =
    metrics.CpuPercent
    ∷ metrics.ActiveTasks
    ∷ metrics.RunningTasks
    ∷ metrics.PendingTasks
    ∷ metrics.SucceededTasks
    ∷ metrics.FailedTasks
    ∷ metrics.TaskSlotsPerNode
    ∷ metrics.CurrentDedicatedNodes
    ∷ metrics.CurrentLowPriorityNodes
    ∷ metrics.PreemptedNodeCount
    ∷ []

abbrev pub metric_data : Metric → Data
metric_data = named_data metric_name

abbrev pub metric_in : Data → Result Metric RowFault
metric_in = named_in metric_name all_metrics

pub metric_back : (x : Metric) → metric_in (metric_data x) ≡ Ok x
unfolding named_in metric_name
metric_back metrics.CpuPercent = refl
metric_back metrics.ActiveTasks = refl
metric_back metrics.RunningTasks = refl
metric_back metrics.PendingTasks = refl
metric_back metrics.SucceededTasks = refl
metric_back metrics.FailedTasks = refl
metric_back metrics.TaskSlotsPerNode = refl
metric_back metrics.CurrentDedicatedNodes = refl
metric_back metrics.CurrentLowPriorityNodes = refl
metric_back metrics.PreemptedNodeCount = refl
