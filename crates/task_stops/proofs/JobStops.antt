-- The changes that disable or close a job lead to the tables in which it is so.
use Rattle.std.proofs.Common.{◌≡◌, ℕ, List, ◌++◌, Some, refl, ◌∙◌, ap}
use Rattle.bt_rows.specs.declared.event.DisableTasks.{DisableTasks}
use Rattle.bt_rows.specs.declared.event.DisableTasks.TheVariants.{Requeue, Terminate, Wait}
use Rattle.bt_rows.specs.Changes.{apply_changes}
use Rattle.batch_model.specs.Finding.{Each}
use Rattle.batch_model.specs.Jobs.{job_in}
use Rattle.batch_model.specs.Rows.{is_job, job_of, put_job}
use Rattle.batch_model.specs.Runs.{prepares}
use Rattle.batch_model.specs.Sound.{names_no_task}
use Rattle.batch_model.specs.Stops.{close, disable, job_for, stop_for}
use Rattle.batch_model.specs.Tasks.{is_in_job}
use Rattle.batch_model.specs.WellFormed.{KeysAreDistinct}
use Rattle.batch_model.specs.Variants.{State, JobRow, JobState, Disabling, WantRequeue, WantTerminate}
use Rattle.machine_plans.specs.Plans.{with_moment}
use Rattle.machine_plans.proofs.DuePuts.{job_changed}
use Rattle.machine_plans.proofs.Moves.{keys_moved}
use Rattle.row_changes.proofs.ListPuts.{apply_append}
use Rattle.task_stops.specs.HaltChanges.{halt_changes}
use Rattle.task_stops.specs.StopChanges.{stop_changes_for, disable_changes, close_changes, stop_changes}
use Rattle.task_stops.proofs.HaltMade.{halt_made}
use Rattle.task_stops.proofs.StopMade.{stop_made}

module _ (s : State) (keys : KeysAreDistinct s) (job : JobRow) (there : job_of s job.id ≡ Some job) (now : ℕ) where
  -- the job in its place
  abbrev with_row : JobRow → State
  with_row row = put_job row (with_moment now s)

  stopped_for : (option : DisableTasks) (row : JobRow) → apply_changes (stop_changes_for option job.id now s) (with_row row) ≡ stop_for option job.id (with_row row)
  stopped_for Requeue row = stop_made (is_in_job job.id) WantRequeue (with_row row) keys.tasks keys.runs
  stopped_for Terminate row = stop_made (is_in_job job.id) WantTerminate (with_row row) keys.tasks keys.runs
  stopped_for Wait row = refl

  pub disabled_made : (option : DisableTasks) → apply_changes (disable_changes option job now s) (with_moment now s) ≡ disable job option (with_moment now s)
  disabled_made option =
      ap (apply_changes (stop_changes_for option job.id now s)) (job_changed (is_job job.id) job (job_in Disabling job) (with_moment now s) (keys_moved now s keys) there refl)
      ∙ stopped_for option (job_in Disabling job)

  pub closed_made : Each names_no_task s.runs → (next : JobState) (why : List ℕ) → apply_changes (close_changes next why job now s) (with_moment now s) ≡ close next why job (with_moment now s)
  closed_made apart next why =
      ap (apply_changes (stop_changes (is_in_job job.id) WantTerminate now s ++ halt_changes (prepares job.id) now s))
      (job_changed (is_job job.id) job (job_for next why job) (with_moment now s) (keys_moved now s keys) there refl)
      ∙ apply_append (stop_changes (is_in_job job.id) WantTerminate now s) (halt_changes (prepares job.id) now s) (with_row (job_for next why job))
      ∙ ap (apply_changes (halt_changes (prepares job.id) now s)) (stop_made (is_in_job job.id) WantTerminate (with_row (job_for next why job)) keys.tasks keys.runs)
      ∙ halt_made (prepares job.id) (is_in_job job.id) WantTerminate (with_row (job_for next why job)) apart keys.runs keys.preps
