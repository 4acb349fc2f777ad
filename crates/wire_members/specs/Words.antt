-- The words of bodies, in upper or lower case, as the Azure Batch REST reference has them.
use Rattle.std.specs.Prelude.{ℕ, Bool, true, false, List, Option, Some, None, codes, if◌then◌else◌}
use Rattle.bt_base.specs.Ids.{same}
use Rattle.bt_base.specs.declared.dealloc_option.Dealloc.{Dealloc}
use Rattle.bt_base.specs.declared.dealloc_option.Dealloc.TheVariants as options
use Rattle.bt_rows.specs.declared.pool.Fill.{Fill}
use Rattle.bt_rows.specs.declared.pool.Fill.TheVariants.{Spread, Pack}
use Rattle.bt_rows.specs.declared.task.JobAction.{JobAction}
use Rattle.bt_rows.specs.declared.task.JobAction.TheVariants.{Nothing, Disable, Terminate}
use Rattle.bt_rows.specs.declared.event.DisableTasks.{DisableTasks}
use Rattle.bt_rows.specs.declared.event.DisableTasks.TheVariants as disables
use Rattle.wire_members.specs.declared.words.AllTasksAction.{AllTasksAction}
use Rattle.wire_members.specs.declared.words.AllTasksAction.TheVariants.{NoAction, TerminateJob}
use Rattle.wire_members.specs.declared.words.FailureAction.{FailureAction}
use Rattle.wire_members.specs.declared.words.FailureAction.TheVariants as failures
use Rattle.wire_members.specs.declared.words.DependencyAction.{DependencyAction}
use Rattle.wire_members.specs.declared.words.DependencyAction.TheVariants.{Satisfy, Block}

-- a `nodeFillType`
unfoldable pub fill_word : List ℕ → Option Fill
fill_word t =
    if same t (codes "spread") then Some Spread
    else if same t (codes "pack") then Some Pack
    else None

-- a `nodeDeallocationOption`
unfoldable pub dealloc_word : List ℕ → Option Dealloc
dealloc_word t =
    if same t (codes "requeue") then Some options.Requeue
    else if same t (codes "terminate") then Some options.Terminate
    else if same t (codes "taskcompletion") then Some options.TaskCompletion
    else if same t (codes "retaineddata") then Some options.RetainedData
    else None

-- a `jobAction`
unfoldable pub job_action_word : List ℕ → Option JobAction
job_action_word t =
    if same t (codes "none") then Some Nothing
    else if same t (codes "disable") then Some Disable
    else if same t (codes "terminate") then Some Terminate
    else None

-- an `onAllTasksComplete`
unfoldable pub all_tasks_word : List ℕ → Option AllTasksAction
all_tasks_word t =
    if same t (codes "noaction") then Some NoAction
    else if same t (codes "terminatejob") then Some TerminateJob
    else None

-- the job is terminated
abbrev pub is_terminating : AllTasksAction → Bool
is_terminating NoAction = false
is_terminating TerminateJob = true

-- an `onTaskFailure`
unfoldable pub failure_word : List ℕ → Option FailureAction
failure_word t =
    if same t (codes "noaction") then Some failures.NoAction
    else if same t (codes "performexitoptionsjobaction") then Some failures.PerformJobAction
    else None

-- the job takes the actions of its tasks' exit options
abbrev pub is_performing : FailureAction → Bool
is_performing failures.NoAction = false
is_performing failures.PerformJobAction = true

-- a `dependencyAction`
unfoldable pub dependency_word : List ℕ → Option DependencyAction
dependency_word t =
    if same t (codes "satisfy") then Some Satisfy
    else if same t (codes "block") then Some Block
    else None

-- dependent tasks may go on
abbrev pub is_satisfying : DependencyAction → Bool
is_satisfying Satisfy = true
is_satisfying Block = false

-- a `disableTasks`
unfoldable pub disable_word : List ℕ → Option DisableTasks
disable_word t =
    if same t (codes "requeue") then Some disables.Requeue
    else if same t (codes "terminate") then Some disables.Terminate
    else if same t (codes "wait") then Some disables.Wait
    else None
