-- The names of the variants of enums whose variants have no values.
use Rattle.std.specs.Prelude.{ℕ, List, codes}
use Rattle.bt_rows.specs.declared.pool.Alloc.{Alloc}
use Rattle.bt_rows.specs.declared.pool.Alloc.TheVariants as allocs
use Rattle.bt_rows.specs.declared.pool.Fill.{Fill}
use Rattle.bt_rows.specs.declared.pool.Fill.TheVariants as fills
use Rattle.bt_base.specs.declared.dealloc_option.Dealloc.{Dealloc}
use Rattle.bt_base.specs.declared.dealloc_option.Dealloc.TheVariants as deallocs
use Rattle.bt_rows.specs.declared.pool.ResizeError.{ResizeError}
use Rattle.bt_rows.specs.declared.pool.ResizeError.TheVariants as resize_errors
use Rattle.bt_rows.specs.declared.job.JobState.{JobState}
use Rattle.bt_rows.specs.declared.job.JobState.TheVariants as job_states
use Rattle.bt_rows.specs.declared.task.JobAction.{JobAction}
use Rattle.bt_rows.specs.declared.task.JobAction.TheVariants as job_actions
use Rattle.bt_rows.specs.declared.task.TaskStage.{TaskStage}
use Rattle.bt_rows.specs.declared.task.TaskStage.TheVariants as task_stages
use Rattle.bt_rows.specs.declared.task.Want.{Want}
use Rattle.bt_rows.specs.declared.task.Want.TheVariants as wants
use Rattle.bt_rows.specs.declared.run.RunKind.{RunKind}
use Rattle.bt_rows.specs.declared.run.RunKind.TheVariants as run_kinds
use Rattle.bt_rows.specs.declared.prep.PrepState.{PrepState}
use Rattle.bt_rows.specs.declared.prep.PrepState.TheVariants as prep_states
use Rattle.bt_rows.specs.declared.prep.ReleaseState.{ReleaseState}
use Rattle.bt_rows.specs.declared.prep.ReleaseState.TheVariants as release_states
use Rattle.bt_base.specs.declared.pool_metric.Metric.{Metric}
use Rattle.bt_base.specs.declared.pool_metric.Metric.TheVariants as metrics

-- whether a pool is being resized
unfoldable pub alloc_name : Alloc → List ℕ
alloc_name allocs.Steady = codes "Steady"
alloc_name allocs.Resizing = codes "Resizing"
alloc_name allocs.Stopping = codes "Stopping"

-- how tasks are distributed over nodes
unfoldable pub fill_name : Fill → List ℕ
fill_name fills.Spread = codes "Spread"
fill_name fills.Pack = codes "Pack"

-- what becomes of the tasks of a node that leaves
unfoldable pub dealloc_name : Dealloc → List ℕ
dealloc_name deallocs.Requeue = codes "Requeue"
dealloc_name deallocs.Terminate = codes "Terminate"
dealloc_name deallocs.TaskCompletion = codes "TaskCompletion"
dealloc_name deallocs.RetainedData = codes "RetainedData"

-- why a resize ended early
unfoldable pub resize_error_name : ResizeError → List ℕ
resize_error_name resize_errors.AllocationTimedOut = codes "AllocationTimedOut"
resize_error_name resize_errors.ResizeStopped = codes "ResizeStopped"

-- the state of a job
unfoldable pub job_state_name : JobState → List ℕ
job_state_name job_states.Active = codes "Active"
job_state_name job_states.Disabling = codes "Disabling"
job_state_name job_states.Disabled = codes "Disabled"
job_state_name job_states.Enabling = codes "Enabling"
job_state_name job_states.Terminating = codes "Terminating"
job_state_name job_states.Completed = codes "Completed"
job_state_name job_states.Deleting = codes "Deleting"

-- what an ending does to the job
unfoldable pub job_action_name : JobAction → List ℕ
job_action_name job_actions.Nothing = codes "Nothing"
job_action_name job_actions.Disable = codes "Disable"
job_action_name job_actions.Terminate = codes "Terminate"

-- how far a task has come
unfoldable pub task_stage_name : TaskStage → List ℕ
task_stage_name task_stages.Active = codes "Active"
task_stage_name task_stages.Placed = codes "Placed"
task_stage_name task_stages.Completed = codes "Completed"

-- how a task is to be ended
unfoldable pub want_name : Want → List ℕ
want_name wants.Requeue = codes "Requeue"
want_name wants.Terminate = codes "Terminate"
want_name wants.Wall = codes "Wall"
want_name wants.Delete = codes "Delete"

-- what a run executes
unfoldable pub run_kind_name : RunKind → List ℕ
run_kind_name run_kinds.Start = codes "Start"
run_kind_name run_kinds.Prep = codes "Prep"
run_kind_name run_kinds.Task = codes "Task"
run_kind_name run_kinds.Coordination = codes "Coordination"
run_kind_name run_kinds.Release = codes "Release"

-- the state of a preparation
unfoldable pub prep_state_name : PrepState → List ℕ
prep_state_name prep_states.Running = codes "Running"
prep_state_name prep_states.Completed = codes "Completed"
prep_state_name prep_states.Failed = codes "Failed"

-- the state of a release task
unfoldable pub release_state_name : ReleaseState → List ℕ
release_state_name release_states.No = codes "No"
release_state_name release_states.Running = codes "Running"
release_state_name release_states.Done = codes "Done"

-- a metric of a pool
unfoldable pub metric_name : Metric → List ℕ
metric_name metrics.CpuPercent = codes "CpuPercent"
metric_name metrics.ActiveTasks = codes "ActiveTasks"
metric_name metrics.RunningTasks = codes "RunningTasks"
metric_name metrics.PendingTasks = codes "PendingTasks"
metric_name metrics.SucceededTasks = codes "SucceededTasks"
metric_name metrics.FailedTasks = codes "FailedTasks"
metric_name metrics.TaskSlotsPerNode = codes "TaskSlotsPerNode"
metric_name metrics.CurrentDedicatedNodes = codes "CurrentDedicatedNodes"
metric_name metrics.CurrentLowPriorityNodes = codes "CurrentLowPriorityNodes"
metric_name metrics.PreemptedNodeCount = codes "PreemptedNodeCount"
