-- One task is stopped: tables with it are sound.
use Rattle.std.proofs.Common.{◌≡◌, ℕ, true, List, nat_eq}
use Rattle.bt_base.specs.Ids.{same}
use Rattle.batch_model.specs.Finding.{names}
use Rattle.batch_model.specs.Rows.{is_task}
use Rattle.batch_model.specs.Runs.{is_present, is_run_of_task}
use Rattle.batch_model.specs.Stops.{stop}
use Rattle.batch_model.specs.Sound.{IsSound}
use Rattle.batch_model.specs.Variants.{State, TaskRow, Want, RunRow}
use Rattle.model_lists.proofs.Tests.{and_true, and_first, and_second}
use Rattle.model_tables.proofs.JobsStopped.{one_job}
use Rattle.model_tables.proofs.TasksStopped.{sound_stopped}

-- tasks that have a run in common have one key
tasks_together : (job id : List ℕ) (one other : TaskRow) (run : RunRow) → is_present one run ≡ true → is_present other run ≡ true → is_task job id one ≡ true
    → is_task job id other ≡ true
tasks_together job id one other run h k t =
    and_true
    (one_job run.job one.job other.job job (job_of_run one h) (job_of_run other k) (and_first (same one.job job) (same one.id id) t))
    (one_job run.task one.id other.id id (task_of_run one h) (task_of_run other k) (and_second (same one.job job) (same one.id id) t))
  where
    of_task : (task : TaskRow) → is_present task run ≡ true → is_run_of_task task.job task.id run ≡ true
    of_task task e = and_first (is_run_of_task task.job task.id run) (nat_eq run.attempt task.attempt) e

    job_of_run : (task : TaskRow) → is_present task run ≡ true → names run.job task.job ≡ true
    job_of_run task e = and_first (names run.job task.job) (names run.task task.id) (of_task task e)

    task_of_run : (task : TaskRow) → is_present task run ≡ true → names run.task task.id ≡ true
    task_of_run task e = and_second (names run.job task.job) (names run.task task.id) (of_task task e)

-- the task with a key is stopped
pub sound_one_stopped : (seats : ℕ) (s : State) (job id : List ℕ) (want : Want) → IsSound seats s → IsSound seats (stop (is_task job id) want s)
sound_one_stopped seats s job id want h = sound_stopped (is_task job id) want s (tasks_together job id) seats h
