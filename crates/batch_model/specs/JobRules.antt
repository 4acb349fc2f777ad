-- The due rules of jobs. Each takes its first job in list order.
-- Source: Azure Batch REST reference, JobState, and Azure Batch documentation of job preparation and release; the form is this project's own.
use Rattle.std.specs.Prelude.{ℕ, Bool, not, ◌&&◌, ◌||◌, List, codes, filter, find, Option, if◌then◌else◌}
use Rattle.std.specs.Option.{option_map, option_and_then}
use Rattle.std.specs.List.{list_any, list_all}
use Rattle.bt_base.specs.Ids.{same}
use Rattle.bt_rows.specs.declared.due.Due.TheVariants.{JobEnabled, TasksDone, JobDisabled, ReleaseMade, JobEnded}
use Rattle.bt_rows.specs.declared.due.JobEnd.TheVariants.{Kept, Removed}
use Rattle.batch_model.specs.Finding.{find_map, only_if, names, has_number_left}
use Rattle.batch_model.specs.Rows.{is_job, job_of, node_of, put_job, add_run_row}
use Rattle.batch_model.specs.Runs.{is_unended, prepares, job_run}
use Rattle.batch_model.specs.Tasks.{is_completed, is_in_job, has_placed_task}
use Rattle.batch_model.specs.Jobs.{is_job_active, is_disabling, is_enabling, is_closing, is_job_deleting, job_in}
use Rattle.batch_model.specs.Preps.{is_prepared, is_unreleased, change_prep}
use Rattle.batch_model.specs.Stops.{terminate}
use Rattle.batch_model.specs.Steps.{DueStep}
use Rattle.batch_model.specs.Variants.{State, NodeRow, JobRow, JobActive, Disabled, JobCompleted, ReleaseTask, TaskRow, RunRow, ReleaseRun, PrepRow}
use Rattle.batch_model.specs.Variants.{ReleaseRunning}

-- U6: an enabling job is active

-- the line names the job
abbrev pub job_enabled : State → JobRow → DueStep
job_enabled s job = record { due = JobEnabled job.id; state = put_job (job_in JobActive job) s }

-- it is enabling
abbrev pub is_to_enable : JobRow → Bool
is_to_enable job = is_enabling job.state

-- the first such job
abbrev pub enable_first : State → Option DueStep
enable_first s = option_map (job_enabled s) (find is_to_enable s.jobs)

-- U7: an active job that is terminated with its tasks (Azure: onAllTasksComplete), all of which are completed

-- the reason of such an end
unfoldable pub all_complete : List ℕ
all_complete = codes "AllTasksComplete"

-- the task is of another job, or completed
abbrev pub is_done_in : List ℕ → TaskRow → Bool
is_done_in job task = not (is_in_job job task) || is_completed task.stage

-- each task of the job is completed; a job without tasks is such
abbrev pub has_all_completed : State → List ℕ → Bool
has_all_completed s job = list_all (is_done_in job) s.tasks

-- active, to be terminated with its tasks, and these are completed
abbrev pub ends_with_tasks : State → JobRow → Bool
ends_with_tasks s job = is_job_active job.state && job.on_all && has_all_completed s job.id

-- it is terminated; the line names the job
abbrev pub tasks_done : State → JobRow → DueStep
tasks_done s job = record { due = TasksDone job.id; state = terminate all_complete job s }

-- the first such job
abbrev pub terminate_first : State → Option DueStep
terminate_first s = option_map (tasks_done s) (find (ends_with_tasks s) s.jobs)

-- U8: a disabling job without placed tasks is disabled

-- disabling, without placed tasks
abbrev pub is_to_disable : State → JobRow → Bool
is_to_disable s job = is_disabling job.state && not (has_placed_task s job.id)

-- the line names the job
abbrev pub job_disabled : State → JobRow → DueStep
job_disabled s job = record { due = JobDisabled job.id; state = put_job (job_in Disabled job) s }

-- the first such job
abbrev pub disable_first : State → Option DueStep
disable_first s = option_map (job_disabled s) (find (is_to_disable s) s.jobs)

-- U9: a terminating or deleting job runs its release task on each node on which it was prepared and a task of it was started

-- the preparation is completed, it has served a task, and no release run was made
abbrev pub wants_release : PrepRow → Bool
wants_release prep = is_prepared prep.state && prep.ran && is_unreleased prep.release

-- an unended preparation run of the job
abbrev pub is_being_prepared : State → List ℕ → Bool
is_being_prepared s job = list_any (prepares job) s.runs

-- terminating or deleting, without placed tasks and unended preparation runs
abbrev pub is_releasing : State → JobRow → Bool
is_releasing s job = is_closing job.state && not (has_placed_task s job.id) && not (is_being_prepared s job.id)

-- the preparation whose release run was made
abbrev pub releasing : PrepRow → PrepRow
releasing prep = record prep { release = ReleaseRunning }

-- a release run is queued on the node; the line names the job, the node and the run
abbrev pub release_made : State → PrepRow → NodeRow → JobRow → ReleaseTask → DueStep
release_made s prep node job release = record {
  due = ReleaseMade job.id node.number s.next_run;
  state = add_run_row (job_run s node.number node.pool ReleaseRun release.line job.id) (change_prep prep releasing s);
}

-- for a job that is releasing and has a release task
abbrev pub release_for : State → PrepRow → NodeRow → JobRow → Option DueStep
release_for s prep node job = only_if (is_releasing s job) (option_map (release_made s prep node job) job.release)

-- for the preparation's job, on its node
abbrev pub release_on : State → PrepRow → Option DueStep
release_on s prep =
    only_if (wants_release prep)
    (option_and_then (λ node. option_and_then (release_for s prep node) (job_of s prep.job)) (node_of s prep.node))

-- the first such preparation among those of all jobs, while run numbers last
abbrev pub release_first : State → Option DueStep
release_first s = only_if (has_number_left s.next_run) (find_map (release_on s) s.preps)

-- U10: a terminating or deleting job without placed tasks and unended runs is completed, or removed

-- the run names the job, and has not ended
abbrev pub is_unended_of : List ℕ → RunRow → Bool
is_unended_of job run = names run.job job && is_unended run.state

-- a run that names the job has not ended
abbrev pub has_unended_run : State → List ℕ → Bool
has_unended_run s job = list_any (is_unended_of job) s.runs

-- terminating or deleting, without placed tasks and unended runs
abbrev pub has_job_ended : State → JobRow → Bool
has_job_ended s job = is_closing job.state && not (has_placed_task s job.id) && not (has_unended_run s job.id)

-- the row of the job is dropped with its tasks, runs and preparations
abbrev pub drop_job : List ℕ → State → State
drop_job job s = record s {
  jobs = filter (λ row. not (is_job job row)) s.jobs;
  tasks = filter (λ task. not (is_in_job job task)) s.tasks;
  runs = filter (λ run. not (names run.job job)) s.runs;
  preps = filter (λ prep. not (same prep.job job)) s.preps;
}

-- a job that is being deleted is removed; the line names the job
abbrev pub job_removed : State → JobRow → DueStep
job_removed s job = record { due = JobEnded job.id Removed; state = drop_job job.id s }

-- another is completed; the line names the job
abbrev pub job_completed : State → JobRow → DueStep
job_completed s job = record { due = JobEnded job.id Kept; state = put_job (job_in JobCompleted job) s }

-- by whether the job is being deleted
abbrev pub job_ended : State → JobRow → DueStep
job_ended s job = if is_job_deleting job.state then job_removed s job else job_completed s job

-- the first such job
abbrev pub end_first : State → Option DueStep
end_first s = option_map (job_ended s) (find (has_job_ended s) s.jobs)
