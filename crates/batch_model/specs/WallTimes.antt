-- The due rules of wall times, the longest times that tasks, release tasks and jobs may run (Azure: maxWallClockTime). Each
-- takes its first row in list order.
-- Source: Azure Batch REST reference, maxWallClockTime; the form is this project's own.
use Rattle.std.specs.Prelude.{ℕ, Bool, false, not, ◌&&◌, List, codes, find, Option}
use Rattle.std.specs.Option.{option_map, option_map_or, option_and_then}
use Rattle.bt_rows.specs.declared.due.Due.TheVariants.{TaskTimedOut, ReleaseTimedOut, JobTimedOut}
use Rattle.batch_model.specs.Finding.{has_passed}
use Rattle.batch_model.specs.Rows.{is_task, is_run, job_of, change_runs}
use Rattle.batch_model.specs.Runs.{is_taken, is_release, asked_to_stop}
use Rattle.batch_model.specs.Tasks.{is_placed, is_undisturbed, is_busy}
use Rattle.batch_model.specs.Jobs.{is_past}
use Rattle.batch_model.specs.Stops.{stop, terminate}
use Rattle.batch_model.specs.Steps.{DueStep}
use Rattle.batch_model.specs.Variants.{State, JobRow, ReleaseTask, TaskRow, WantWall, RunRow}

-- U2: a placed task whose wall time is over since it started is stopped

-- the task has started, and its wall time is over since then
abbrev pub is_out_of_time : ℕ → TaskRow → Bool
is_out_of_time now task = option_map_or (λ from. has_passed from task.wall now) task.started false

-- placed, with no end wanted and no ending in place of its main command's, with an unended run, and out of time
abbrev pub is_task_timed_out : State → TaskRow → Bool
is_task_timed_out s task = is_placed task.stage && is_undisturbed task && is_busy s task && is_out_of_time s.moment task

-- it is stopped; the line names the task
abbrev pub task_timed_out : State → TaskRow → DueStep
task_timed_out s task = record { due = TaskTimedOut task.job task.id; state = stop (is_task task.job task.id) WantWall s }

-- the first such task
abbrev pub time_out_task_first : State → Option DueStep
time_out_task_first s = option_map (task_timed_out s) (find (is_task_timed_out s) s.tasks)

-- U3: a release run whose wall time is over since it was taken is asked to stop

-- a release run that was taken and not asked to stop
abbrev pub can_be_asked : RunRow → Bool
can_be_asked run = is_release run.kind && is_taken run.state && not run.asked

-- the release task of the run's job
abbrev pub release_of : State → RunRow → Option ReleaseTask
release_of s run = option_and_then (λ (job : JobRow). job.release) (option_and_then (job_of s) run.job)

-- how long it may run
abbrev pub release_limit : State → RunRow → Option ℕ
release_limit s run = option_map (λ (release : ReleaseTask). release.wall) (release_of s run)

-- the run was taken, and its wall time is over since then
abbrev pub is_release_over : State → RunRow → Bool
is_release_over s run = option_map_or (λ from. has_passed from (release_limit s run) s.moment) run.taken false

-- it can be asked to stop, and its wall time is over
abbrev pub is_release_timed_out : State → RunRow → Bool
is_release_timed_out s run = can_be_asked run && is_release_over s run

-- it is asked to stop; the line names the run
abbrev pub release_timed_out : State → RunRow → DueStep
release_timed_out s run = record { due = ReleaseTimedOut run.number; state = change_runs (is_run run.number) asked_to_stop s }

-- the first such run
abbrev pub time_out_release_first : State → Option DueStep
time_out_release_first s = option_map (release_timed_out s) (find (is_release_timed_out s) s.runs)

-- U4: a job whose wall time is over since it was added is terminated

-- the reason of such an end
unfoldable pub wall_time_over : List ℕ
wall_time_over = codes "MaxWallClockTimeExpiry"

-- not terminating, completed or deleting, and its wall time is over since it was added
abbrev pub is_job_timed_out : State → JobRow → Bool
is_job_timed_out s job = not (is_past job.state) && has_passed job.created job.wall s.moment

-- it is terminated; the line names the job
abbrev pub job_timed_out : State → JobRow → DueStep
job_timed_out s job = record { due = JobTimedOut job.id; state = terminate wall_time_over job s }

-- the first such job
abbrev pub time_out_job_first : State → Option DueStep
time_out_job_first s = option_map (job_timed_out s) (find (is_job_timed_out s) s.jobs)
