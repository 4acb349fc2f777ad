-- Jobs that are disabled, terminated or deleted: tables with them are sound.
use Rattle.std.specs.List.{list_any}
use Rattle.std.proofs.Common.{◌≡◌, ℕ, true, false, ◌&&◌, List, Option, Some, None, refl, sym, ◌∙◌, nat_eq}
use Rattle.bt_base.specs.Ids.{same}
use Rattle.bt_base.proofs.SameIds.{same_equiv}
use Rattle.bt_rows.specs.declared.event.DisableTasks.{DisableTasks}
use Rattle.bt_rows.specs.declared.event.DisableTasks.TheVariants.{Requeue, Terminate, Wait}
use Rattle.bt_rows.specs.Ranges.{is_reason}
use Rattle.batch_model.specs.Finding.{names}
use Rattle.batch_model.specs.Rows.{is_job, put_job}
use Rattle.batch_model.specs.Runs.{is_present, is_run_of_task, prepares}
use Rattle.batch_model.specs.Preps.{waits_for_preparation}
use Rattle.batch_model.specs.Tasks.{is_in_job}
use Rattle.batch_model.specs.Jobs.{is_quiet, is_job_completed, job_in}
use Rattle.batch_model.specs.Stops.{stop, job_for, disable, close}
use Rattle.batch_model.specs.Sound.{IsSound}
use Rattle.batch_model.specs.WellFormed.{is_job_valid}
use Rattle.batch_model.specs.Variants.{State, JobRow, JobState, JobActive, Disabling, Disabled, Enabling, Terminating, JobCompleted, Deleting, TaskRow, WantRequeue, WantTerminate, RunRow}
use Rattle.model_lists.proofs.Tests.{and_true, and_first, and_second}
use Rattle.model_tables.proofs.JobPut.{sound_job_put}
use Rattle.model_tables.proofs.TasksStopped.{sound_stopped}
use Rattle.model_tables.proofs.PrepsHalted.{sound_preps_halted}

-- two ids that a name is the same as are of one job
pub one_job : (name : Option (List ℕ)) (one other job : List ℕ) → names name one ≡ true → names name other ≡ true → same one job ≡ true → same other job ≡ true
one_job None one other job h k t = cc
one_job (Some id) one other job h k t = sym (same_equiv.congr id other job k) ∙ (same_equiv.congr id one job h ∙ t)

-- tasks that have a run in common are of one job
pub jobs_together : (job : List ℕ) (one other : TaskRow) (run : RunRow) → is_present one run ≡ true → is_present other run ≡ true → is_in_job job one ≡ true
    → is_in_job job other ≡ true
jobs_together job one other run h k t =
    one_job run.job one.job other.job job (job_of_run one h) (job_of_run other k) t
  where
    job_of_run : (task : TaskRow) → is_present task run ≡ true → names run.job task.job ≡ true
    job_of_run task e = and_first _ (names run.task task.id) (and_first (is_run_of_task task.job task.id run) (nat_eq run.attempt task.attempt) e)

-- a job that is disabled, as the option says
pub sound_disabled : (seats : ℕ) (s : State) (job : JobRow) (option : DisableTasks) → IsSound seats s → is_job_valid s.moment job ≡ true
    → (waits_for_preparation job ≡ true → list_any (λ other. is_job job.id other && waits_for_preparation other) s.jobs ≡ true)
    → IsSound seats (disable job option s)
sound_disabled seats s job option h valid waited = by_option option
  where
    put : IsSound seats (put_job (job_in Disabling job) s)
    put = sound_job_put s (job_in Disabling job) seats h valid refl waited refl

    by_option : (one : DisableTasks) → IsSound seats (disable job one s)
    by_option Requeue = sound_stopped (is_in_job job.id) WantRequeue (put_job (job_in Disabling job) s) (jobs_together job.id) seats put
    by_option Terminate = sound_stopped (is_in_job job.id) WantTerminate (put_job (job_in Disabling job) s) (jobs_together job.id) seats put
    by_option Wait = put

-- a job that is not quiet is not completed
loud_goes_on : (state : JobState) → is_quiet state ≡ false → is_job_completed state ≡ false
loud_goes_on JobActive h = refl
loud_goes_on Disabling h = refl
loud_goes_on Disabled h = refl
loud_goes_on Enabling h = refl
loud_goes_on Terminating h = refl
loud_goes_on JobCompleted h = cc
loud_goes_on Deleting h = refl

-- a job that goes into a state that is not quiet, for a reason
pub sound_closed : (seats : ℕ) (s : State) (next : JobState) (why : List ℕ) (job : JobRow) → IsSound seats s → is_job_valid s.moment job ≡ true
    → is_reason why ≡ true → is_quiet next ≡ false
    → (waits_for_preparation job ≡ true → list_any (λ other. is_job job.id other && waits_for_preparation other) s.jobs ≡ true)
    → IsSound seats (close next why job s)
sound_closed seats s next why job h valid reason loud waited =
    sound_preps_halted seats (prepares job.id) (stop (is_in_job job.id) WantTerminate (put_job (job_for next why job) s))
    (sound_stopped (is_in_job job.id) WantTerminate (put_job (job_for next why job) s) (jobs_together job.id) seats
    (sound_job_put s (job_for next why job) seats h
    (and_true (and_true (and_first _ _ (and_first _ _ valid)) reason) (and_second _ _ valid))
    (rw loud refl) waited (rw (loud_goes_on next loud) refl)))
