-- Stopping tasks, halting preparations, and disabling and terminating jobs.
-- Source: Azure Batch REST reference, Disable Job, Terminate Job and Terminate Task; the form is this project's own.
use Rattle.std.specs.Prelude.{ℕ, Bool, ◌&&◌, List, Option, Some, None}
use Rattle.std.specs.List.{list_any}
use Rattle.bt_rows.specs.declared.event.DisableTasks.{DisableTasks}
use Rattle.bt_rows.specs.declared.event.DisableTasks.TheVariants.{Requeue, Terminate, Wait}
use Rattle.batch_model.specs.Rows.{put_job, change_tasks, change_runs, change_preps}
use Rattle.batch_model.specs.Runs.{is_preparation, is_queued, is_present, is_open_preparation, prepares, is_at_prep, halted}
use Rattle.batch_model.specs.Preps.{failed_preparation}
use Rattle.batch_model.specs.Tasks.{is_placed, is_in_job}
use Rattle.batch_model.specs.Jobs.{job_in}
use Rattle.batch_model.specs.Variants.{State, JobRow, JobState, Disabling, Terminating, TaskRow, Want, WantRequeue, WantTerminate, WantDelete, RunRow, PrepRow}

-- the end that is wanted once one more is: delete replaces any other, and terminate replaces requeue
abbrev pub joined : Option Want → Want → Want
joined None want = want
joined (Some old) WantDelete = WantDelete
joined (Some WantRequeue) WantTerminate = WantTerminate
joined (Some old) want = old

-- the end is wanted of the task
abbrev pub wanting : Want → TaskRow → TaskRow
wanting want task = record task { wanted = Some (joined task.wanted want) }

-- the task is placed, and passes the test
abbrev pub is_stopped : (TaskRow → Bool) → TaskRow → Bool
is_stopped test task = is_placed task.stage && test task

-- the run is of the present attempt of such a task
abbrev pub is_run_of_stopped : (TaskRow → Bool) → State → RunRow → Bool
is_run_of_stopped test s run = list_any (λ task. is_stopped test task && is_present task run) s.tasks

-- of the placed tasks that pass the test the end is wanted, and the runs of their present attempts are halted
abbrev pub stop : (TaskRow → Bool) → Want → State → State
stop test want s =
    change_tasks (is_stopped test) (wanting want)
    (change_runs (is_run_of_stopped test s) (halted s.moment) s)

-- a queued preparation run that passes the test
abbrev pub is_cut_off : (RunRow → Bool) → RunRow → Bool
is_cut_off test run = test run && (is_preparation run.kind && is_queued run.state)

-- such a run is of this preparation
abbrev pub has_run_cut_off : (RunRow → Bool) → State → PrepRow → Bool
has_run_cut_off test s prep = list_any (λ run. is_cut_off test run && is_at_prep prep run) s.runs

-- the unended preparation runs that pass the test are halted, and a preparation whose run was not taken has failed
abbrev pub halt_preparations : (RunRow → Bool) → State → State
halt_preparations test s =
    change_preps (has_run_cut_off test s) failed_preparation
    (change_runs (λ run. test run && is_open_preparation run) (halted s.moment) s)

-- the placed tasks of the job are stopped as the option says; waiting stops none
abbrev pub stop_for : DisableTasks → List ℕ → State → State
stop_for Requeue job s = stop (is_in_job job) WantRequeue s
stop_for Terminate job s = stop (is_in_job job) WantTerminate s
stop_for Wait job s = s

-- the job is disabling, and its placed tasks are stopped as the option says
abbrev pub disable : JobRow → DisableTasks → State → State
disable job option s = stop_for option job.id (put_job (job_in Disabling job) s)

-- the job in a state for a reason
abbrev pub job_for : JobState → List ℕ → JobRow → JobRow
job_for next why job = record job { state = next; reason = Some why }

-- the job goes into a closing state for a reason, its placed tasks are terminated, and its preparation runs are halted
abbrev pub close : JobState → List ℕ → JobRow → State → State
close next why job s =
    halt_preparations (prepares job.id)
    (stop (is_in_job job.id) WantTerminate (put_job (job_for next why job) s))

-- the job is terminating for a reason
abbrev pub terminate : List ℕ → JobRow → State → State
terminate why job s = close Terminating why job s
