-- The changes that stop tasks: a put for each run that is halted, and one for each task that is stopped.
use Rattle.std.specs.Prelude.{ℕ, Bool, not, ◌&&◌, List, [], ◌∷◌, ◌++◌, Option, Some}
use Rattle.bt_rows.specs.declared.event.DisableTasks.{DisableTasks}
use Rattle.bt_rows.specs.declared.event.DisableTasks.TheVariants.{Requeue, Terminate, Wait}
use Rattle.bt_rows.specs.declared.tables.Change.{Change}
use Rattle.bt_rows.specs.declared.tables.Change.TheVariants.{PutJob, PutRun, PutTask}
use Rattle.batch_model.specs.Finding.{only_if}
use Rattle.batch_model.specs.Leaving.{has_run_where, is_on}
use Rattle.batch_model.specs.Runs.{is_present, is_unended, prepares, halted}
use Rattle.batch_model.specs.Stops.{is_stopped, is_run_of_stopped, job_for, wanting}
use Rattle.batch_model.specs.Jobs.{job_in}
use Rattle.batch_model.specs.Preparing.{is_waiting_on}
use Rattle.batch_model.specs.Rows.{is_task}
use Rattle.batch_model.specs.Tasks.{is_in_job}
use Rattle.batch_model.specs.Variants.{State, JobRow, JobState, Disabling, TaskRow, Want, WantRequeue, WantTerminate, RunRow}
use Rattle.row_changes.specs.Puts.{puts_of}
use Rattle.task_stops.specs.HaltChanges.{halt_changes}
use Rattle.task_stops.specs.LeaveTests.{leaves}
use Rattle.task_stops.specs.declared.stop.Stopped.{Stopped}
use Rattle.task_stops.specs.declared.stop.Stopped.TheVariants.{OfJob, One, WaitingFor, OthersOfJob, OnNodes}

-- a task of the job, and not the one with these ids
abbrev pub is_other_in_job : List ℕ → List ℕ → List ℕ → TaskRow → Bool
is_other_in_job job of_job id task = is_in_job job task && not (is_task of_job id task)

-- the task is of the job, or is the one, or waits for the preparation, or is of the job and not the one, or has a run on a node that leaves
abbrev pub is_among : State → Stopped → TaskRow → Bool
is_among s (OfJob job) = is_in_job job
is_among s (One key) = is_task key.job key.id
is_among s (WaitingFor prep) = is_waiting_on s prep
is_among s (OthersOfJob job key) = is_other_in_job job key.job key.id
is_among s (OnNodes which) = has_run_where (is_on (leaves which) s) s

-- the task is stopped, and the run is of its present attempt
abbrev pub stopped_test : (TaskRow → Bool) → RunRow → TaskRow → Bool
stopped_test test run task = is_stopped test task && is_present task run

-- an unended run of the present attempt of a task that is stopped
abbrev pub is_to_halt : (TaskRow → Bool) → State → RunRow → Bool
is_to_halt test s run = is_unended run.state && is_run_of_stopped test s run

-- the run after it is halted, if it is to be
abbrev pub halted_run : (TaskRow → Bool) → ℕ → State → RunRow → Option RunRow
halted_run test now s run = only_if (is_to_halt test s run) (Some (halted now run))

-- the task after it is stopped, if it is to be
abbrev pub stopped_task : (TaskRow → Bool) → Want → TaskRow → Option TaskRow
stopped_task test want task = only_if (is_stopped test task) (Some (wanting want task))

-- the runs first
abbrev pub stop_changes : (TaskRow → Bool) → Want → ℕ → State → List Change
stop_changes test want now s =
    puts_of PutRun (halted_run test now s) s.runs ++ puts_of PutTask (stopped_task test want) s.tasks

-- of the placed tasks of a job, as the option says
abbrev pub stop_changes_for : DisableTasks → List ℕ → ℕ → State → List Change
stop_changes_for Requeue job now s = stop_changes (is_in_job job) WantRequeue now s
stop_changes_for Terminate job now s = stop_changes (is_in_job job) WantTerminate now s
stop_changes_for Wait job now s = []

-- the job is disabling, and its placed tasks are stopped as the option says
abbrev pub disable_changes : DisableTasks → JobRow → ℕ → State → List Change
disable_changes option job now s = PutJob (job_in Disabling job) ∷ stop_changes_for option job.id now s

-- the job is in a state for a reason, its placed tasks are terminated, and its preparations are halted
abbrev pub close_changes : JobState → List ℕ → JobRow → ℕ → State → List Change
close_changes next why job now s =
    PutJob (job_for next why job) ∷ stop_changes (is_in_job job.id) WantTerminate now s ++ halt_changes (prepares job.id) now s
