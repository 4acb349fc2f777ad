-- An event places no task, and completes no job.
use Rattle.std.proofs.Common.{◌≡◌, ℕ, ◌+◌, Bool, true, false, List, [], ◌∷◌, Option, Some, None, cond, is_some, unwrap_or, inl, inr, refl, ◌∙◌, ap}
use Rattle.std.specs.Option.{option_map_or}
use Rattle.bt_rows.specs.declared.event.EventKind.{EventKind}
use Rattle.bt_rows.specs.declared.event.EventKind.TheVariants.{AddPool, DeletePool, Resize, StopResize, AddJob, PatchJob, DisableJob, EnableJob}
use Rattle.bt_rows.specs.declared.event.EventKind.TheVariants.{TerminateJob, DeleteJob, AddTask, AddTasks, DeleteTask, TerminateTask, ReactivateTask, Take, End}
use Rattle.bt_rows.specs.declared.event.EventKind.TheVariants.{EnableAutoscale, DisableAutoscale, EvaluateAutoscale, Sample, Tick}
use Rattle.bt_rows.specs.declared.event.JobPatch.{JobPatch}
use Rattle.bt_rows.specs.declared.event.JobSpec.{JobSpec}
use Rattle.bt_rows.specs.declared.event.Limits.{Limits}
use Rattle.bt_rows.specs.declared.event.TaskSpec.{TaskSpec}
use Rattle.bt_rows.specs.declared.refusal.Refusal.TheVariants.{PoolNotFound, JobNotFound, TaskNotFound, JobStateRefuses, RunNotFound}
use Rattle.bt_rows.specs.declared.refusal.Refusal.{Refusal}
use Rattle.batch_model.specs.Endings.{is_success}
use Rattle.batch_model.specs.Events.{refuse, answer, event_step, event_now, at_moment, accept_all, add_pool_refusals, pool_added, add_job, add_job_in, add_job_refusals}
use Rattle.batch_model.specs.Events.{patch_job, limited, patch_refusals, patched, disable_job, disable_refusals, enable_job, enable_refusals, terminate_job}
use Rattle.batch_model.specs.Events.{terminate_refusals, user_terminate, delete_job, delete_refusals, add_task, task_refusals, after_element, add_each, add_tasks}
use Rattle.batch_model.specs.Events.{add_tasks_refusals, for_row, delete_found, delete_task_refusals, delete_task, terminate_task_refusals, terminate_found}
use Rattle.batch_model.specs.Events.{task_added, task_terminated, terminate_task, reactivated, reactivate_refusals, reactivate_found, reactivate_task_refusals}
use Rattle.batch_model.specs.Events.{reactivate_task, started_task, is_task_of_run, run_taken, take_run, take_refusals, ended_run, ended_by, run_ended, end_run}
use Rattle.batch_model.specs.Events.{end_refusals}
use Rattle.batch_model.specs.Finding.{first_of, at_row}
use Rattle.batch_model.specs.Jobs.{is_job_completed, is_past, job_in, new_job}
use Rattle.batch_model.specs.PoolEvents.{resize_refusals, resized_pool, resize_pool, stop_resize_refusals, stopping, stop_resize}
use Rattle.batch_model.specs.PoolEvents.{delete_pool_refusals, deleted_pool, drop_scale, is_leaving_from, pool_deleted, delete_pool}
use Rattle.batch_model.specs.Pools.{new_pool}
use Rattle.batch_model.specs.Preparing.{spent_preparation, preparation_done, is_waiting_on, prepare_again, give_up, preparation_failed, preparation_of}
use Rattle.batch_model.specs.Preparing.{preparation_ended_at, prep_of_run, released}
use Rattle.batch_model.specs.Preps.{change_prep, failed_preparation}
use Rattle.batch_model.specs.Rows.{is_task, is_run, job_of, task_of, pool_of, run_of, put_pool, put_job, put_task, change_runs, add_pool_row, add_job_row}
use Rattle.batch_model.specs.Samples.{new_sample, add_sample}
use Rattle.batch_model.specs.Scaling.{autoscale_enabled, enable_autoscale_refusals, enable_autoscale, scaling_refusals, disable_autoscale}
use Rattle.batch_model.specs.Scaling.{formula_shown, evaluate_refusals, evaluate_autoscale, sample_refusals, sample_pool}
use Rattle.batch_model.specs.Settling.{drop_task}
use Rattle.batch_model.specs.Starts.{is_tried_again, start_ended}
use Rattle.batch_model.specs.Steps.{Answered, refuse_if}
use Rattle.batch_model.specs.Stops.{stop, disable, close, terminate}
use Rattle.batch_model.specs.Tasks.{is_placed, terminated, new_task}
use Rattle.batch_model.specs.Variants.{State, ByRequeue, CpuPercent, JobRow, JobState, JobActive, Disabling, Disabled, Enabling, Terminating, JobCompleted, Deleting}
use Rattle.batch_model.specs.Variants.{StartTask, TaskRow, WantRequeue, WantTerminate, WantDelete, Ending, PrepRow, RunRow, RunKind, StartRun, PrepRun, TaskRun}
use Rattle.batch_model.specs.Variants.{CoordinationRun, ReleaseRun}
use Rattle.model_lists.proofs.Tests.{passes_or_not}
use Rattle.model_tables.proofs.ScalingParts.{given_scale_leaves, enabled_leaves}
use Rattle.model_events.proofs.Keeping.{AreAbsent, passed, through, given_keeps, answer_keeps, for_row_keeps}
use Rattle.model_events.proofs.end.StartCases.{StartEnds, nothing, starts, again, fails, start_cases}
use Rattle.model_laws.specs.Placings.{EventPlacings}
use Rattle.model_laws.proofs.KeptPlacings.{Keeps, stays, both, in_place, stop_keeps, task_put, task_added as added_keeps, task_dropped, job_put, job_added}
use Rattle.model_laws.proofs.KeptPlacings.{close_keeps, disable_keeps, leave_keeps}

-- a job that is not past is not completed
not_past_not_over : (state : JobState) → is_past state ≡ false → is_job_completed state ≡ false
not_past_not_over Disabled e = refl
not_past_not_over JobActive e = refl
not_past_not_over Disabling e = refl
not_past_not_over Enabling e = refl
not_past_not_over Terminating e = refl
not_past_not_over JobCompleted e = cc
not_past_not_over Deleting e = refl

-- other limits leave the state of a job
limits_state : (o : Option Limits) (row : JobRow) → (at_row limited o row).state ≡ row.state
limits_state None row = refl
limits_state (Some limits) row = refl

module _ (job id : List ℕ) where
  -- tasks are added
  each_added : (row : JobRow) (specs : List TaskSpec) (s : State) → Keeps job id s (add_each s row specs).state
  each_added row [] s = stays job id s
  each_added row (spec ∷ specs) s =
      let next : State = after_element s row spec (first_of (task_refusals s row spec)) in
      both job id s next (add_each next row specs).state
      (through (λ first. Keeps job id s (after_element s row spec first)) (λ refusal. stays job id s) (task_refusals s row spec)
      (λ absent. added_keeps job id (new_task row.id spec) s refl))
      (each_added row specs next)

  -- endings

  module _ (s : State) where
    start_case : (run : RunRow) (ending : Ending) (t : State) → StartEnds s run ending t → Keeps job id s t
    start_case run ending t nothing = stays job id s
    start_case run ending t (starts node found success) = stays job id s
    start_case run ending t (again node start found there failed left) = stays job id s
    start_case run ending t (fails node start found there failed) = stays job id s

    given_up : (prep : PrepRow) (b : Bool)
        → Keeps job id s (cond b (stop (is_waiting_on s prep) WantRequeue (change_prep prep spent_preparation s)) (change_prep prep spent_preparation s))
    given_up prep true = stop_keeps job id (is_waiting_on s prep) WantRequeue (change_prep prep spent_preparation s)
    given_up prep false = stays job id s

    prep_failed : (prep : PrepRow) (run : RunRow) (preparation : StartTask) (b : Bool)
        → Keeps job id s (cond b (prepare_again prep run preparation s) (give_up prep preparation s))
    prep_failed prep run preparation true = stays job id s
    prep_failed prep run preparation false = given_up prep preparation.wait

    prep_case : (prep : PrepRow) (run : RunRow) (asked good : Bool) (o : Option StartTask)
        → Keeps job id s
        (cond asked (change_prep prep failed_preparation s) (cond good (preparation_done prep s) (at_row (preparation_failed prep run) o s)))
    prep_case prep run true good o = stays job id s
    prep_case prep run false true o = stays job id s
    prep_case prep run false false None = stays job id s
    prep_case prep run false false (Some preparation) = prep_failed prep run preparation (is_tried_again s (prep.tries + 1) preparation)

    prep_on : (run : RunRow) (ending : Ending) (prep : Option PrepRow)
        → Keeps job id s (at_row (λ (row : PrepRow). preparation_ended_at row run ending) prep s)
    prep_on run ending None = stays job id s
    prep_on run ending (Some prep) = prep_case prep run run.asked (is_success ending) (preparation_of s prep)

    release_on : (prep : Option PrepRow) → Keeps job id s (at_row (λ (row : PrepRow). change_prep row released) prep s)
    release_on None = stays job id s
    release_on (Some prep) = stays job id s

    by_kind : (kind : RunKind) (run : RunRow) (ending : Ending) → Keeps job id s (ended_by kind run ending s)
    by_kind StartRun run ending = start_case run ending (start_ended run ending s) (start_cases s run ending)
    by_kind PrepRun run ending = prep_on run ending (prep_of_run s run)
    by_kind TaskRun run ending = stays job id s
    by_kind CoordinationRun run ending = stays job id s
    by_kind ReleaseRun run ending = release_on (prep_of_run s run)

  run_ended_keeps : (s : State) (ending : Ending) (run : RunRow) → Keeps job id s (run_ended s ending run)
  run_ended_keeps s ending run = by_kind (change_runs (is_run run.number) (ended_run s.moment ending) s) run.kind run ending

  -- events

  module _ (s : State) where
    -- a refused event leaves the tables, so it is left to see what an event does if nothing refuses it
    by_given : (given : Answered) (refusals : List (Option Refusal)) → (AreAbsent refusals → Keeps job id s given.state)
        → Keeps job id s (option_map_or (λ refusal. refuse refusal s) (first_of refusals) given).state
    by_given = given_keeps (Keeps job id s) s (stays job id s)

    by_answer : (refusals : List (Option Refusal)) (status : ℕ) (after : State) → (AreAbsent refusals → Keeps job id s after)
        → Keeps job id s (answer s refusals status after).state
    by_answer = answer_keeps (Keeps job id s) s (stays job id s)

    by_row : {R : Type 0} (refusal : Refusal) (answer_for : R → Answered) (row : Option R)
        → ((one : R) → row ≡ Some one → Keeps job id s (answer_for one).state) → Keeps job id s (for_row s refusal answer_for row).state
    by_row = for_row_keeps (Keeps job id s) s (stays job id s)

    new_job_added : (new_id : List ℕ) (spec : JobSpec) → Keeps job id s (add_job s new_id spec).state
    new_job_added new_id spec = elim (passes_or_not (is_some (job_of s new_id))) [
      | inl e ↦ rw e (stays job id s)
      | inr new ↦
          rw new (by_row PoolNotFound (add_job_in s new_id spec) (pool_of s spec.pool)
          (λ pool found. by_answer (add_job_refusals s pool) 201 (add_job_row (new_job s.moment new_id pool.id spec) s)
          (λ absent. job_added job id (new_job s.moment new_id pool.id spec) s refl)))
    ]

    job_patched : (patch : JobPatch) (row : JobRow) → is_past row.state ≡ false → Keeps job id s (put_job (patched patch row) s)
    job_patched patch row not_past =
        job_put job id (patched patch row) s (ap is_job_completed (limits_state patch.limits row) ∙ not_past_not_over row.state not_past)

    deleted_by : (task : TaskRow) (b : Bool) → Keeps job id s (cond b (stop (is_task task.job task.id) WantDelete s) (drop_task task s))
    deleted_by task true = stop_keeps job id (is_task task.job task.id) WantDelete s
    deleted_by task false = task_dropped job id task s

    terminated_by : (task : TaskRow) (b : Bool)
        → Keeps job id s (cond b (stop (is_task task.job task.id) WantTerminate s) (put_task (terminated s.moment task) s))
    terminated_by task true = stop_keeps job id (is_task task.job task.id) WantTerminate s
    terminated_by task false = task_put job id (terminated s.moment task) s refl

    -- each event at the tables' moment
    keeps_now : (event : EventKind) → Keeps job id s (event_now event s).state
    keeps_now (AddPool spec) =
        by_answer (add_pool_refusals s spec) 201 (pool_added s spec)
        (λ absent. given_scale_leaves (Keeps job id s) (add_pool_row (new_pool s.moment spec) s) (λ rows. stays job id s) spec.id spec.scale)
    keeps_now (DeletePool pool) =
        by_row PoolNotFound (delete_pool s) (pool_of s pool)
        (λ row found. by_answer (delete_pool_refusals row) 202 (pool_deleted s row)
        (λ absent. leave_keeps job id ByRequeue (is_leaving_from row.id) (drop_scale row.id (put_pool (deleted_pool row) s))))
    keeps_now (Resize pool spec) =
        by_row PoolNotFound (resize_pool s spec) (pool_of s pool)
        (λ row found. by_answer (resize_refusals s row) 202 (put_pool (resized_pool s.moment spec row) s) (λ absent. stays job id s))
    keeps_now (StopResize pool) =
        by_row PoolNotFound (stop_resize s) (pool_of s pool)
        (λ row found. by_answer (stop_resize_refusals row) 202 (put_pool (stopping row) s) (λ absent. stays job id s))
    keeps_now (AddJob new_id spec) = new_job_added new_id spec
    keeps_now (PatchJob in_job patch) =
        by_row JobNotFound (patch_job s patch) (job_of s in_job)
        (λ row found. by_answer (patch_refusals patch row) 200 (put_job (patched patch row) s)
        (λ absent. job_patched patch row (passed (is_past row.state) (JobStateRefuses row.state) absent.0)))
    keeps_now (DisableJob in_job option) =
        by_row JobNotFound (disable_job s option) (job_of s in_job)
        (λ row found. by_answer (disable_refusals row) 202 (disable row option s) (λ absent. disable_keeps job id option row s))
    keeps_now (EnableJob in_job) =
        by_row JobNotFound (enable_job s) (job_of s in_job)
        (λ row found. by_answer (enable_refusals row) 202 (put_job (job_in Enabling row) s)
        (λ absent. job_put job id (job_in Enabling row) s refl))
    keeps_now (TerminateJob in_job reason) =
        by_row JobNotFound (terminate_job s reason) (job_of s in_job)
        (λ row found. by_answer (terminate_refusals row) 202 (terminate (unwrap_or reason user_terminate) row s)
        (λ absent. close_keeps job id Terminating (unwrap_or reason user_terminate) row s refl))
    keeps_now (DeleteJob in_job) =
        by_row JobNotFound (delete_job s) (job_of s in_job)
        (λ row found. by_answer (delete_refusals row) 202 (close Deleting user_terminate row s)
        (λ absent. close_keeps job id Deleting user_terminate row s refl))
    keeps_now (AddTask in_job spec) =
        by_row JobNotFound (add_task s spec) (job_of s in_job)
        (λ row found. by_answer (refuse_if (is_past row.state) (JobStateRefuses row.state) ∷ task_refusals s row spec) 201 (task_added s row spec)
        (λ absent. added_keeps job id (new_task row.id spec) s refl))
    keeps_now (AddTasks in_job specs) =
        by_row JobNotFound (add_tasks s specs) (job_of s in_job)
        (λ row found. by_given (accept_all (add_each s row specs)) (add_tasks_refusals row specs)
        (λ absent. each_added row specs s))
    keeps_now (DeleteTask in_job named) =
        by_row JobNotFound (delete_task s named) (job_of s in_job)
        (λ row found. by_given (for_row s TaskNotFound (delete_found s) (task_of s row.id named)) (delete_task_refusals row)
        (λ absent. by_row TaskNotFound (delete_found s) (task_of s row.id named)
        (λ task there. deleted_by task (is_placed task.stage))))
    keeps_now (TerminateTask in_job named) =
        by_row JobNotFound (terminate_task s named) (job_of s in_job)
        (λ row found. by_row TaskNotFound (terminate_found s) (task_of s row.id named)
        (λ task there. by_answer (terminate_task_refusals task) 204 (task_terminated s task)
        (λ absent. terminated_by task (is_placed task.stage))))
    keeps_now (ReactivateTask in_job named) =
        by_row JobNotFound (reactivate_task s named) (job_of s in_job)
        (λ row found. by_given (for_row s TaskNotFound (reactivate_found s) (task_of s row.id named)) (reactivate_task_refusals row)
        (λ allowed. by_row TaskNotFound (reactivate_found s) (task_of s row.id named)
        (λ task there. by_answer (reactivate_refusals task) 204 (put_task (reactivated task) s)
        (λ absent. task_put job id (reactivated task) s refl))))
    keeps_now (Take number) =
        by_row RunNotFound (take_run s) (run_of s number)
        (λ run found. by_answer (take_refusals run) 200 (run_taken s run)
        (λ absent. in_place job id (is_task_of_run run) (started_task s.moment) s (λ task t. refl) (λ task attempt h. h)))
    keeps_now (End number ending) =
        by_row RunNotFound (end_run s ending) (run_of s number)
        (λ run found. by_answer (end_refusals run) 200 (run_ended s ending run) (λ absent. run_ended_keeps s ending run))
    keeps_now (EnableAutoscale pool spec) =
        by_row PoolNotFound (enable_autoscale s spec) (pool_of s pool)
        (λ row found. by_answer (enable_autoscale_refusals s spec row) 200 (autoscale_enabled s spec row)
        (λ absent. enabled_leaves (Keeps job id s) s (λ pools rows. stays job id s) spec row))
    keeps_now (DisableAutoscale pool) =
        by_row PoolNotFound (disable_autoscale s) (pool_of s pool)
        (λ row found. by_answer (scaling_refusals s row) 200 (drop_scale row.id s) (λ absent. stays job id s))
    keeps_now (EvaluateAutoscale pool text) =
        by_row PoolNotFound (evaluate_autoscale s text) (pool_of s pool)
        (λ row found. by_given (formula_shown s text row) (evaluate_refusals s text row) (λ absent. stays job id s))
    keeps_now (Sample pool percentage) =
        by_row PoolNotFound (sample_pool s percentage) (pool_of s pool)
        (λ row found. by_answer (sample_refusals s row) 200 (add_sample (new_sample s row.id CpuPercent percentage) s) (λ absent. stays job id s))
    keeps_now Tick = stays job id s

-- an event places no task, and completes no job
pub event_placings : (moment : ℕ) (event : EventKind) (s : State) → EventPlacings s (event_step moment event s).state
event_placings moment event s = record {
  placed = λ job id. (keeps_now job id (at_moment moment s) event).0;
  completed = λ job. (keeps_now job [] (at_moment moment s) event).1;
}
