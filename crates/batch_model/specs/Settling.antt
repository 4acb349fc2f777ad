-- What becomes of a placed task whose present attempt has no unended run.
-- Source: Azure Batch REST reference, maxTaskRetryCount, TaskExecutionResult and onTaskFailure; the form is this project's own.
use Rattle.std.specs.Prelude.{ℕ, ◌+◌, Bool, true, false, not, ◌&&◌, List, codes, filter, Option, Some, None, if◌then◌else◌}
use Rattle.std.specs.Option.{option_map, option_and_then}
use Rattle.bt_rows.specs.declared.event.DisableTasks.TheVariants.{Requeue}
use Rattle.bt_rows.specs.declared.due.Outcome.{Outcome}
use Rattle.bt_rows.specs.declared.due.Outcome.TheVariants.{Deleted, Success, Failure, Again}
use Rattle.bt_rows.specs.declared.due.Due.TheVariants.{TaskSettled}
use Rattle.batch_model.specs.Finding.{is_below}
use Rattle.batch_model.specs.Rows.{is_task, job_of, put_task}
use Rattle.batch_model.specs.Runs.{is_run_of_task}
use Rattle.batch_model.specs.Tasks.{is_placed, is_busy, attempt_ending, retry_limit, completed, terminated, again}
use Rattle.batch_model.specs.Jobs.{can_disable, is_past}
use Rattle.batch_model.specs.Endings.{is_success, is_not_started}
use Rattle.batch_model.specs.Conditions.{condition}
use Rattle.batch_model.specs.Stops.{disable, terminate}
use Rattle.batch_model.specs.Steps.{DueStep}
use Rattle.batch_model.specs.Variants.{State, JobRow, JobAction, NoAction, ToDisable, ToTerminate, Options, TaskRow, Want, WantRequeue, WantTerminate, WantWall}
use Rattle.batch_model.specs.Variants.{WantDelete, How, ByEnding, ByWall, Ending, NoCode}

-- placed, and no run of the present attempt is unended
abbrev pub is_over : State → TaskRow → Bool
is_over s task = is_placed task.stage && not (is_busy s task)

-- the reason of a job that a failed task terminated
unfoldable pub task_failed : List ℕ
task_failed = codes "TaskFailed"

-- the row of the task is dropped with its runs
abbrev pub drop_task : TaskRow → State → State
drop_task task s = record s {
  tasks = filter (λ row. not (is_task task.job task.id row)) s.tasks;
  runs = filter (λ run. not (is_run_of_task task.job task.id run)) s.runs;
}

-- the line names the task and what became of it
abbrev pub settled : TaskRow → Outcome → State → DueStep
settled task outcome after = record { due = TaskSettled task.job task.id outcome; state = after }

-- what an ending of a task does to its job: a job that can be disabled is, and its placed tasks are requeued; one that is not
-- past is terminated
abbrev pub act : JobAction → JobRow → State → State
act NoAction job s = s
act ToDisable job s = if can_disable job.state then disable job Requeue s else s
act ToTerminate job s = if is_past job.state then s else terminate task_failed job s

-- if the job asks for such actions (Azure: onTaskFailure)
abbrev pub act_if_asked : JobAction → JobRow → State → State
act_if_asked action job s = if job.on_fail then act action job s else s

-- the task is completed, in such a way, and then the action of its options is done to its job
abbrev pub complete : JobRow → TaskRow → How → Bool → Options → State → State
complete job task cause succeeded options s =
    act_if_asked options.job job
    (put_task (completed (record { how = cause; success = succeeded; satisfies = options.satisfies; at = s.moment }) task) s)

-- by success
abbrev pub outcome_of : Bool → Outcome
outcome_of true = Success
outcome_of false = Failure

-- completed as it ended
abbrev pub settle_completed : State → JobRow → TaskRow → Ending → Bool → DueStep
settle_completed s job task ending succeeded =
    settled task (outcome_of succeeded) (complete job task (ByEnding ending) succeeded (condition task ending) s)

-- completed since its wall time is over, by the exit options of an ending without code
abbrev pub settle_timed_out : State → JobRow → TaskRow → DueStep
settle_timed_out s job task = settled task Failure (complete job task ByWall false (condition task NoCode) s)

-- completed as terminated: without exit options
abbrev pub settle_terminated : State → TaskRow → DueStep
settle_terminated s task = settled task Failure (put_task (terminated s.moment task) s)

-- active again after this number of failures
abbrev pub settle_again : State → TaskRow → ℕ → DueStep
settle_again s task failed = settled task (Again failed) (put_task (again failed task) s)

-- dropped
abbrev pub settle_deleted : State → TaskRow → DueStep
settle_deleted s task = settled task Deleted (drop_task task s)

-- while its failures are below the limit of its retries, a task that failed is active again with one failure more
abbrev pub settle_failed : State → JobRow → TaskRow → Ending → DueStep
settle_failed s job task ending =
    if is_below task.failures (retry_limit job task)
    then settle_again s task (task.failures + 1)
    else settle_completed s job task ending false

-- a success, a launch error, which is not tried again, or a failure, which may be
abbrev pub settle_ending : State → JobRow → TaskRow → Ending → DueStep
settle_ending s job task ending =
    if is_success ending then settle_completed s job task ending true
    else if is_not_started ending then settle_completed s job task ending false
    else settle_failed s job task ending

-- the wanted end decides, and if there is none, how the present attempt ended
abbrev pub settle_by : Option Want → State → JobRow → TaskRow → Option DueStep
settle_by (Some WantDelete) s job task = Some (settle_deleted s task)
settle_by (Some WantTerminate) s job task = Some (settle_terminated s task)
settle_by (Some WantWall) s job task = Some (settle_timed_out s job task)
settle_by (Some WantRequeue) s job task = Some (settle_again s task task.failures)
settle_by None s job task = option_map (settle_ending s job task) (attempt_ending s task)

-- with the retries and actions of the task's job
abbrev pub settle : State → TaskRow → Option DueStep
settle s task = option_and_then (λ job. settle_by task.wanted s job task) (job_of s task.job)
