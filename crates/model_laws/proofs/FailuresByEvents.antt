-- No event raises the failures of a task: they stay, or the task is gone, or it is a new one or was reactivated, and has none.
use Rattle.std.proofs.Common.{◌≡◌, ℕ, ◌+◌, Bool, true, false, not, ◌&&◌, ◌||◌, List, [], ◌∷◌, Option, Some, None, cond, is_some, unwrap_or, ◌⊎◌, inl, inr, refl, sym}
use Rattle.std.proofs.Common.{◌∙◌, ap, subst}
use Rattle.std.specs.List.{list_any, find}
use Rattle.std.specs.Option.{option_map, option_map_or}
use Rattle.bt_base.specs.Ids.{same}
use Rattle.bt_base.proofs.SameIds.{same_equiv}
use Rattle.bt_rows.specs.Keys.{same_task}
use Rattle.bt_rows.specs.Lists.{AreDistinct}
use Rattle.bt_rows.specs.declared.event.EventKind.{EventKind}
use Rattle.bt_rows.specs.declared.event.EventKind.TheVariants.{AddPool, DeletePool, Resize, StopResize, AddJob, PatchJob, DisableJob, EnableJob}
use Rattle.bt_rows.specs.declared.event.EventKind.TheVariants.{TerminateJob, DeleteJob, AddTask, AddTasks, DeleteTask, TerminateTask, ReactivateTask, Take, End}
use Rattle.bt_rows.specs.declared.event.EventKind.TheVariants.{EnableAutoscale, DisableAutoscale, EvaluateAutoscale, Sample, Tick}
use Rattle.bt_rows.specs.declared.event.JobSpec.{JobSpec}
use Rattle.bt_rows.specs.declared.event.TaskSpec.{TaskSpec}
use Rattle.bt_rows.specs.declared.refusal.Refusal.TheVariants.{PoolNotFound, JobNotFound, TaskNotFound, JobStateRefuses, RunNotFound, TaskExists}
use Rattle.bt_rows.specs.declared.refusal.Refusal.TheVariants.{TaskNotReactivable}
use Rattle.bt_rows.specs.declared.refusal.Refusal.{Refusal}
use Rattle.batch_model.specs.Endings.{is_success}
use Rattle.batch_model.specs.Events.{refuse, answer, event_step, event_now, at_moment, accept_all, add_pool_refusals, pool_added, add_job, add_job_in, add_job_refusals}
use Rattle.batch_model.specs.Events.{patch_job, patch_refusals, patched, disable_job, disable_refusals, enable_job, enable_refusals, terminate_job}
use Rattle.batch_model.specs.Events.{terminate_refusals, user_terminate, delete_job, delete_refusals, add_task, task_refusals, task_added, after_element}
use Rattle.batch_model.specs.Events.{add_each, add_tasks, add_tasks_refusals, for_row, delete_found, delete_task_refusals, delete_task, task_terminated}
use Rattle.batch_model.specs.Events.{terminate_task_refusals, terminate_found, terminate_task, reactivated, reactivate_refusals, reactivate_found}
use Rattle.batch_model.specs.Events.{can_reactivate, reactivate_task_refusals, reactivate_task, started_task, is_task_of_run, run_taken, take_run, take_refusals, ended_run}
use Rattle.batch_model.specs.Events.{ended_by, run_ended, end_run, end_refusals}
use Rattle.batch_model.specs.Steps.{Answered, refuse_if}
use Rattle.batch_model.specs.Finding.{first_of, at_row}
use Rattle.batch_model.specs.Jobs.{is_past, job_in, new_job}
use Rattle.batch_model.specs.PoolEvents.{resize_refusals, resized_pool, resize_pool, stop_resize_refusals, stopping, stop_resize}
use Rattle.batch_model.specs.PoolEvents.{delete_pool_refusals, deleted_pool, drop_scale, is_leaving_from, pool_deleted, delete_pool}
use Rattle.batch_model.specs.Pools.{new_pool}
use Rattle.batch_model.specs.Preparing.{spent_preparation, preparation_done, is_waiting_on, prepare_again, give_up, preparation_failed, preparation_of}
use Rattle.batch_model.specs.Preparing.{preparation_ended_at, prep_of_run, released}
use Rattle.batch_model.specs.Preps.{change_prep, failed_preparation}
use Rattle.batch_model.specs.Rows.{is_task, is_run, is_job, job_of, task_of, pool_of, run_of, put_pool, put_job, put_task}
use Rattle.batch_model.specs.Rows.{change_runs, add_pool_row, add_job_row}
use Rattle.batch_model.specs.Samples.{new_sample, add_sample}
use Rattle.batch_model.specs.Scaling.{autoscale_enabled, enable_autoscale_refusals, enable_autoscale, scaling_refusals, disable_autoscale}
use Rattle.batch_model.specs.Scaling.{formula_shown, evaluate_refusals, evaluate_autoscale, sample_refusals, sample_pool}
use Rattle.batch_model.specs.Settling.{drop_task}
use Rattle.batch_model.specs.Starts.{is_tried_again, start_ended}
use Rattle.batch_model.specs.Stops.{stop, disable, close, terminate}
use Rattle.batch_model.specs.Tasks.{is_placed, terminated, new_task}
use Rattle.batch_model.specs.Variants.{State, ByRequeue, CpuPercent, JobRow, Terminating, Deleting, Enabling, StartTask, TaskRow, WantRequeue, WantTerminate}
use Rattle.batch_model.specs.Variants.{WantDelete, Ending, PrepRow, RunRow, RunKind, StartRun, PrepRun, TaskRun, CoordinationRun, ReleaseRun}
use Rattle.model_lists.proofs.RowLists.{find_agree, find_test}
use Rattle.model_lists.proofs.Tests.{passes_or_not, and_true, and_first, and_second, or_first, or_second, not_false}
use Rattle.model_tables.proofs.ScalingParts.{given_scale_leaves, enabled_leaves}
use Rattle.model_events.proofs.Keeping.{AreAbsent, passed, through, given_keeps, answer_keeps, for_row_keeps}
use Rattle.model_events.proofs.end.StartCases.{StartEnds, nothing, starts, again, fails, start_cases}
use Rattle.model_laws.specs.Retries.{failures_of, adds_task, EventFailures, same_failures, task_gone, added_task, reactivated_task}
use Rattle.model_laws.proofs.MadeRuns.{found_added}
use Rattle.model_laws.proofs.KeptFailures.{alike_ids, keyed_like, HasSame, HasSameOrGone, in_place, stop_keeps, close_keeps, disable_keeps, leave_keeps}
use Rattle.model_laws.proofs.KeptFailures.{task_dropped}
use Rattle.model_laws.proofs.KeptFailures.{own_task, put_same, put_other, put_own}

module _ (job id : List ℕ) where
  -- tasks are added

  -- the failures are as before, or one of these tasks of the job was added with this key, which was not there, and has none
  abbrev HasSameOrNew : JobRow → List TaskSpec → State → State → Type 0
  HasSameOrNew row specs s t =
      HasSame job id s t
      ⊎ (((failures_of s job id ≡ None) × (failures_of t job id ≡ Some 0)) × ((same row.id job && list_any (λ (spec : TaskSpec). same spec.id id) specs) ≡ true))

  -- one is added, which is not there
  one_added : (s : State) (row : JobRow) (spec : TaskSpec) (specs : List TaskSpec) → is_some (task_of s row.id spec.id) ≡ false
      → HasSameOrNew row (spec ∷ specs) s (task_added s row spec)
  one_added s row spec specs new = elim (found_added (is_task job id) s.tasks (new_task row.id spec)) [
    | inl e ↦ inl (ap (option_map (λ (task : TaskRow). task.failures)) e)
    | inr made ↦
        inr (
          (absent made.1, ap (option_map (λ (task : TaskRow). task.failures)) made.0),
          and_true (and_first (same row.id job) (same spec.id id) made.1)
              (or_first (list_any (λ (other : TaskSpec). same other.id id) specs) (and_second (same row.id job) (same spec.id id) made.1)),
        )
  ]
    where
      nothing_there : (o : Option TaskRow) → is_some o ≡ false → option_map (λ (task : TaskRow). task.failures) o ≡ None
      nothing_there None e = refl
      nothing_there (Some task) e = cc

      -- so neither is one with its key
      absent : is_task job id (new_task row.id spec) ≡ true → failures_of s job id ≡ None
      absent own =
          ap (option_map (λ (task : TaskRow). task.failures))
          (find_agree (is_task job id) (is_task row.id spec.id) (keyed_like job id (new_task row.id spec) own) s.tasks)
          ∙ nothing_there (task_of s row.id spec.id) new

  -- and then others
  then_others : (s t u : State) (row : JobRow) (spec : TaskSpec) (specs : List TaskSpec) → HasSameOrNew row (spec ∷ specs) s t → HasSameOrNew row specs t u
      → HasSameOrNew row (spec ∷ specs) s u
  then_others s t u row spec specs (inl e) (inr new) =
      inr (
        (sym e ∙ new.0.0, new.0.1),
        and_true (and_first (same row.id job) (list_any (λ (other : TaskSpec). same other.id id) specs) new.1)
            (or_second (same spec.id id) (and_second (same row.id job) (list_any (λ (other : TaskSpec). same other.id id) specs) new.1)),
      )
  then_others s t u row spec specs (inr new) (inr newer) = none_and_some (sym newer.0.0 ∙ new.0.1)
    where
      none_and_some : {Q : Type 0} → ◌≡◌ {A = Option ℕ} None (Some 0) → Q
      none_and_some e = cc
  then_others s t u row spec specs (inl e) (inl k) = inl (k ∙ e)
  then_others s t u row spec specs (inr new) (inl k) = inr ((new.0.0, k ∙ new.0.1), new.1)

  each_added : (row : JobRow) (specs : List TaskSpec) (s : State) → HasSameOrNew row specs s (add_each s row specs).state
  each_added row [] s = inl refl
  each_added row (spec ∷ specs) s =
      let next : State = after_element s row spec (first_of (task_refusals s row spec)) in
      then_others s next (add_each next row specs).state row spec specs
      (through (λ first. HasSameOrNew row (spec ∷ specs) s (after_element s row spec first)) (λ refusal. inl refl) (task_refusals s row spec)
      (λ absent. one_added s row spec specs (passed (is_some (task_of s row.id spec.id)) TaskExists absent.1.0)))
      (each_added row specs next)

  -- endings leave the tasks' failures

  module _ (s : State) where
    start_case : (run : RunRow) (ending : Ending) (t : State) → StartEnds s run ending t → HasSame job id s t
    start_case run ending t nothing = refl
    start_case run ending t (starts node found success) = refl
    start_case run ending t (again node start found there failed left) = refl
    start_case run ending t (fails node start found there failed) = refl

    given_up : (prep : PrepRow) (b : Bool)
        → HasSame job id s (cond b (stop (is_waiting_on s prep) WantRequeue (change_prep prep spent_preparation s)) (change_prep prep spent_preparation s))
    given_up prep true = stop_keeps job id (is_waiting_on s prep) WantRequeue (change_prep prep spent_preparation s)
    given_up prep false = refl

    prep_failed : (prep : PrepRow) (run : RunRow) (preparation : StartTask) (b : Bool)
        → HasSame job id s (cond b (prepare_again prep run preparation s) (give_up prep preparation s))
    prep_failed prep run preparation true = refl
    prep_failed prep run preparation false = given_up prep preparation.wait

    prep_case : (prep : PrepRow) (run : RunRow) (asked good : Bool) (o : Option StartTask)
        → HasSame job id s
        (cond asked (change_prep prep failed_preparation s) (cond good (preparation_done prep s) (at_row (preparation_failed prep run) o s)))
    prep_case prep run true good o = refl
    prep_case prep run false true o = refl
    prep_case prep run false false None = refl
    prep_case prep run false false (Some preparation) = prep_failed prep run preparation (is_tried_again s (prep.tries + 1) preparation)

    prep_on : (run : RunRow) (ending : Ending) (prep : Option PrepRow)
        → HasSame job id s (at_row (λ (row : PrepRow). preparation_ended_at row run ending) prep s)
    prep_on run ending None = refl
    prep_on run ending (Some prep) = prep_case prep run run.asked (is_success ending) (preparation_of s prep)

    release_on : (prep : Option PrepRow) → HasSame job id s (at_row (λ (row : PrepRow). change_prep row released) prep s)
    release_on None = refl
    release_on (Some prep) = refl

    by_kind : (kind : RunKind) (run : RunRow) (ending : Ending) → HasSame job id s (ended_by kind run ending s)
    by_kind StartRun run ending = start_case run ending (start_ended run ending s) (start_cases s run ending)
    by_kind PrepRun run ending = prep_on run ending (prep_of_run s run)
    by_kind TaskRun run ending = refl
    by_kind CoordinationRun run ending = refl
    by_kind ReleaseRun run ending = release_on (prep_of_run s run)

  run_ended_keeps : (s : State) (ending : Ending) (run : RunRow) → HasSame job id s (run_ended s ending run)
  run_ended_keeps s ending run = by_kind (change_runs (is_run run.number) (ended_run s.moment ending) s) run.kind run ending

  -- events

  module _ (s : State) where
    -- what becomes of the failures by the event
    abbrev Changes : EventKind → State → Type 0
    Changes event t = EventFailures s event job id (failures_of s job id) (failures_of t job id)

    -- they stay
    kept : (event : EventKind) (t : State) → HasSame job id s t → Changes event t
    kept event t e = subst (λ o. EventFailures s event job id (failures_of s job id) o) (sym e) (same_failures (failures_of s job id))

    stays : (event : EventKind) → Changes event s
    stays event = same_failures (failures_of s job id)

    -- a refused event leaves the tables, so it is left to see what an event does if nothing refuses it
    by_given : (event : EventKind) (given : Answered) (refusals : List (Option Refusal)) → (AreAbsent refusals → Changes event given.state)
        → Changes event (option_map_or (λ refusal. refuse refusal s) (first_of refusals) given).state
    by_given event = given_keeps (Changes event) s (stays event)

    by_answer : (event : EventKind) (refusals : List (Option Refusal)) (status : ℕ) (after : State) → (AreAbsent refusals → Changes event after)
        → Changes event (answer s refusals status after).state
    by_answer event = answer_keeps (Changes event) s (stays event)

    by_row : {R : Type 0} (event : EventKind) (refusal : Refusal) (answer_for : R → Answered) (row : Option R)
        → ((one : R) → row ≡ Some one → Changes event (answer_for one).state) → Changes event (for_row s refusal answer_for row).state
    by_row event = for_row_keeps (Changes event) s (stays event)

    -- they stay, or the task is gone
    kept_or_gone : (event : EventKind) (t : State) → HasSameOrGone job id s t → Changes event t
    kept_or_gone event t (inl e) = kept event t e
    kept_or_gone event t (inr e) = subst (λ o. EventFailures s event job id (failures_of s job id) o) (sym e) (task_gone (failures_of s job id))

    job_added : (event : EventKind) (new_id : List ℕ) (spec : JobSpec) → Changes event (add_job s new_id spec).state
    job_added event new_id spec = elim (passes_or_not (is_some (job_of s new_id))) [
      | inl e ↦ rw e (stays event)
      | inr new ↦
          rw new (by_row event PoolNotFound (add_job_in s new_id spec) (pool_of s spec.pool)
          (λ pool found. by_answer event (add_job_refusals s pool) 201 (add_job_row (new_job s.moment new_id pool.id spec) s)
          (λ absent. stays event)))
    ]

    -- a job that a search finds has the id that was sought
    its_job : (in_job : List ℕ) (row : JobRow) → job_of s in_job ≡ Some row → same row.id job ≡ same in_job job
    its_job in_job row found = same_equiv.congr row.id in_job job (find_test (is_job in_job) row s.jobs found)

    -- and is found by the id of the task's job, if that is the same
    job_there : (in_job : List ℕ) (row : JobRow) → job_of s in_job ≡ Some row → same in_job job ≡ true → job_of s job ≡ Some row
    job_there in_job row found e =
        find_agree (is_job job) (is_job in_job) (λ (other : JobRow). alike_ids in_job job other.id e) s.jobs ∙ found

    -- the task is new, and has none
    added : (event : EventKind) (in_job : List ℕ) (row : JobRow) (t : State) → job_of s in_job ≡ Some row → is_past row.state ≡ false
        → same in_job job ≡ true → adds_task event job id ≡ true → failures_of s job id ≡ None → failures_of t job id ≡ Some 0 → Changes event t
    added event in_job row t found takes own adds none_before none_after =
        subst (λ o. EventFailures s event job id (failures_of s job id) o) (sym none_after)
        (subst (λ o. EventFailures s event job id o (Some 0)) (sym none_before) (added_task row adds (job_there in_job row found own) takes))

    tasks_added : (in_job : List ℕ) (specs : List TaskSpec) (row : JobRow) (t : State) → job_of s in_job ≡ Some row → is_past row.state ≡ false
        → HasSameOrNew row specs s t → Changes (AddTasks in_job specs) t
    tasks_added in_job specs row t found takes (inl e) = kept (AddTasks in_job specs) t e
    tasks_added in_job specs row t found takes (inr new) =
        let own : same in_job job ≡ true =
        sym (its_job in_job row found) ∙ and_first (same row.id job) (list_any (λ (spec : TaskSpec). same spec.id id) specs) new.1
        in
        added (AddTasks in_job specs) in_job row t found takes own
        (and_true own (and_second (same row.id job) (list_any (λ (spec : TaskSpec). same spec.id id) specs) new.1)) new.0.0 new.0.1

    one_task_added : (in_job : List ℕ) (spec : TaskSpec) (row : JobRow) → job_of s in_job ≡ Some row → is_past row.state ≡ false
        → HasSameOrNew row (spec ∷ []) s (task_added s row spec) → Changes (AddTask in_job spec) (task_added s row spec)
    one_task_added in_job spec row found takes (inl e) = kept (AddTask in_job spec) (task_added s row spec) e
    one_task_added in_job spec row found takes (inr new) =
        let own : same in_job job ≡ true = sym (its_job in_job row found) ∙ and_first (same row.id job) (same spec.id id || false) new.1 in
        added (AddTask in_job spec) in_job row (task_added s row spec) found takes own
        (and_true own (alone (same spec.id id) (and_second (same row.id job) (same spec.id id || false) new.1))) new.0.0 new.0.1
      where
        alone : (b : Bool) → (b || false) ≡ true → b ≡ true
        alone true e = refl
        alone false e = e

    deleted_by : (event : EventKind) (task : TaskRow) (b : Bool) → Changes event (cond b (stop (is_task task.job task.id) WantDelete s) (drop_task task s))
    deleted_by event task true =
        kept event (stop (is_task task.job task.id) WantDelete s) (stop_keeps job id (is_task task.job task.id) WantDelete s)
    deleted_by event task false = kept_or_gone event (drop_task task s) (task_dropped job id s task)

    module _ (keys : AreDistinct same_task s.tasks) (test : TaskRow → Bool) (task : TaskRow) (found : find test s.tasks ≡ Some task) where
      terminated_by : (event : EventKind) (b : Bool)
          → Changes event (cond b (stop (is_task task.job task.id) WantTerminate s) (put_task (terminated s.moment task) s))
      terminated_by event true =
          kept event (stop (is_task task.job task.id) WantTerminate s) (stop_keeps job id (is_task task.job task.id) WantTerminate s)
      terminated_by event false =
          kept event (put_task (terminated s.moment task) s)
          (put_same job id s keys test task found (terminated s.moment) (λ one other. refl) (λ one. refl) (λ one. refl))

      reactivated_by : (in_job named : List ℕ) (row : JobRow) (b : Bool) → is_task job id task ≡ b → job_of s in_job ≡ Some row → is_past row.state ≡ false
          → can_reactivate task ≡ true → (is_task job id task ≡ true → (same in_job job && same named id) ≡ true)
          → Changes (ReactivateTask in_job named) (put_task (reactivated task) s)
      reactivated_by in_job named row true e there takes can ids =
          let task_there : task_of s job id ≡ Some task =
          find_agree (is_task job id) (is_task task.job task.id) (keyed_like job id task e) s.tasks ∙ own_task job id s keys test task found
          in
          subst (λ o. EventFailures s (ReactivateTask in_job named) job id (failures_of s job id) o)
          (sym (put_own job id s keys test task found reactivated (λ one other. refl) (λ one. refl) e))
          (subst (λ o. EventFailures s (ReactivateTask in_job named) job id o (Some 0))
          (sym (ap (option_map (λ (one : TaskRow). one.failures)) task_there))
          (reactivated_task row task (ids e) (job_there in_job row there (and_first (same in_job job) (same named id) (ids e))) takes task_there can))
      reactivated_by in_job named row false e there takes can ids =
          kept (ReactivateTask in_job named) (put_task (reactivated task) s)
          (put_other job id s keys test task found reactivated (λ one other. refl) (λ one. refl) e)

    -- the task that is reactivated has the ids of the event
    its_ids : (in_job named : List ℕ) (row : JobRow) (task : TaskRow) → job_of s in_job ≡ Some row → task_of s row.id named ≡ Some task
        → is_task job id task ≡ true → (same in_job job && same named id) ≡ true
    its_ids in_job named row task found there e =
        let own : is_task row.id named task ≡ true = find_test (is_task row.id named) task s.tasks there in
        and_true
        (sym (its_job in_job row found) ∙ sym (same_equiv.congr task.job row.id job (and_first (same task.job row.id) (same task.id named) own))
        ∙ and_first (same task.job job) (same task.id id) e)
        (sym (same_equiv.congr task.id named id (and_second (same task.job row.id) (same task.id named) own))
        ∙ and_second (same task.job job) (same task.id id) e)

    module _ (keys : AreDistinct same_task s.tasks) where
      -- each event at the tables' moment
      changes_now : (event : EventKind) → Changes event (event_now event s).state
      changes_now (AddPool spec) =
          by_answer (AddPool spec) (add_pool_refusals s spec) 201 (pool_added s spec)
          (λ absent. given_scale_leaves (Changes (AddPool spec)) (add_pool_row (new_pool s.moment spec) s) (λ rows. stays (AddPool spec)) spec.id spec.scale)
      changes_now (DeletePool pool) =
          by_row (DeletePool pool) PoolNotFound (delete_pool s) (pool_of s pool)
          (λ row found. by_answer (DeletePool pool) (delete_pool_refusals row) 202 (pool_deleted s row)
          (λ absent. kept (DeletePool pool) (pool_deleted s row)
          (leave_keeps job id ByRequeue (is_leaving_from row.id) (drop_scale row.id (put_pool (deleted_pool row) s)))))
      changes_now (Resize pool spec) =
          by_row (Resize pool spec) PoolNotFound (resize_pool s spec) (pool_of s pool)
          (λ row found. by_answer (Resize pool spec) (resize_refusals s row) 202 (put_pool (resized_pool s.moment spec row) s)
          (λ absent. stays (Resize pool spec)))
      changes_now (StopResize pool) =
          by_row (StopResize pool) PoolNotFound (stop_resize s) (pool_of s pool)
          (λ row found. by_answer (StopResize pool) (stop_resize_refusals row) 202 (put_pool (stopping row) s) (λ absent. stays (StopResize pool)))
      changes_now (AddJob new_id spec) = job_added (AddJob new_id spec) new_id spec
      changes_now (PatchJob in_job patch) =
          by_row (PatchJob in_job patch) JobNotFound (patch_job s patch) (job_of s in_job)
          (λ row found. by_answer (PatchJob in_job patch) (patch_refusals patch row) 200
          (put_job (patched patch row) s) (λ absent. stays (PatchJob in_job patch)))
      changes_now (DisableJob in_job option) =
          by_row (DisableJob in_job option) JobNotFound (disable_job s option) (job_of s in_job)
          (λ row found. by_answer (DisableJob in_job option) (disable_refusals row) 202
          (disable row option s) (λ absent. kept (DisableJob in_job option) (disable row option s) (disable_keeps job id option row s)))
      changes_now (EnableJob in_job) =
          by_row (EnableJob in_job) JobNotFound (enable_job s) (job_of s in_job)
          (λ row found. by_answer (EnableJob in_job) (enable_refusals row) 202 (put_job (job_in Enabling row) s)
          (λ absent. stays (EnableJob in_job)))
      changes_now (TerminateJob in_job reason) =
          by_row (TerminateJob in_job reason) JobNotFound (terminate_job s reason) (job_of s in_job)
          (λ row found. by_answer (TerminateJob in_job reason) (terminate_refusals row) 202
          (terminate (unwrap_or reason user_terminate) row s)
          (λ absent. kept (TerminateJob in_job reason) (terminate (unwrap_or reason user_terminate) row s)
          (close_keeps job id Terminating (unwrap_or reason user_terminate) row s)))
      changes_now (DeleteJob in_job) =
          by_row (DeleteJob in_job) JobNotFound (delete_job s) (job_of s in_job)
          (λ row found. by_answer (DeleteJob in_job) (delete_refusals row) 202 (close Deleting user_terminate row s)
          (λ absent. kept (DeleteJob in_job) (close Deleting user_terminate row s) (close_keeps job id Deleting user_terminate row s)))
      changes_now (AddTask in_job spec) =
          by_row (AddTask in_job spec) JobNotFound (add_task s spec) (job_of s in_job)
          (λ row found. by_answer (AddTask in_job spec)
          (refuse_if (is_past row.state) (JobStateRefuses row.state) ∷ task_refusals s row spec) 201 (task_added s row spec)
          (λ absent. one_task_added in_job spec row found (passed (is_past row.state) (JobStateRefuses row.state) absent.0)
          (one_added s row spec [] (passed (is_some (task_of s row.id spec.id)) TaskExists absent.1.1.0))))
      changes_now (AddTasks in_job specs) =
          by_row (AddTasks in_job specs) JobNotFound (add_tasks s specs) (job_of s in_job)
          (λ row found. by_given (AddTasks in_job specs) (accept_all (add_each s row specs))
          (add_tasks_refusals row specs)
          (λ absent. tasks_added in_job specs row (add_each s row specs).state found
          (passed (is_past row.state) (JobStateRefuses row.state) absent.0) (each_added row specs s)))
      changes_now (DeleteTask in_job named) =
          by_row (DeleteTask in_job named) JobNotFound (delete_task s named) (job_of s in_job)
          (λ row found. by_given (DeleteTask in_job named)
          (for_row s TaskNotFound (delete_found s) (task_of s row.id named)) (delete_task_refusals row)
          (λ absent. by_row (DeleteTask in_job named) TaskNotFound (delete_found s) (task_of s row.id named)
          (λ task there. deleted_by (DeleteTask in_job named) task (is_placed task.stage))))
      changes_now (TerminateTask in_job named) =
          by_row (TerminateTask in_job named) JobNotFound (terminate_task s named) (job_of s in_job)
          (λ row found. by_row (TerminateTask in_job named) TaskNotFound (terminate_found s)
          (task_of s row.id named)
          (λ task there. by_answer (TerminateTask in_job named) (terminate_task_refusals task) 204
          (task_terminated s task)
          (λ absent. terminated_by keys (is_task row.id named) task there (TerminateTask in_job named) (is_placed task.stage))))
      changes_now (ReactivateTask in_job named) =
          by_row (ReactivateTask in_job named) JobNotFound (reactivate_task s named) (job_of s in_job)
          (λ row found. by_given (ReactivateTask in_job named)
          (for_row s TaskNotFound (reactivate_found s) (task_of s row.id named)) (reactivate_task_refusals row)
          (λ allowed. by_row (ReactivateTask in_job named) TaskNotFound (reactivate_found s)
          (task_of s row.id named)
          (λ task there. by_answer (ReactivateTask in_job named) (reactivate_refusals task) 204
          (put_task (reactivated task) s)
          (λ absent. reactivated_by keys (is_task row.id named) task there in_job named row (is_task job id task) refl found
          (passed (is_past row.state) (JobStateRefuses row.state) allowed.0)
          (not_false (can_reactivate task) (passed (not (can_reactivate task)) TaskNotReactivable absent.0))
          (its_ids in_job named row task found there)))))
      changes_now (Take number) =
          by_row (Take number) RunNotFound (take_run s) (run_of s number)
          (λ run found. by_answer (Take number) (take_refusals run) 200 (run_taken s run)
          (λ absent. kept (Take number) (run_taken s run)
          (in_place job id (is_task_of_run run) (started_task s.moment) s (λ task. refl) (λ task. refl))))
      changes_now (End number ending) =
          by_row (End number ending) RunNotFound (end_run s ending) (run_of s number)
          (λ run found. by_answer (End number ending) (end_refusals run) 200 (run_ended s ending run)
          (λ absent. kept (End number ending) (run_ended s ending run) (run_ended_keeps s ending run)))
      changes_now (EnableAutoscale pool spec) =
          by_row (EnableAutoscale pool spec) PoolNotFound (enable_autoscale s spec) (pool_of s pool)
          (λ row found. by_answer (EnableAutoscale pool spec) (enable_autoscale_refusals s spec row) 200 (autoscale_enabled s spec row)
          (λ absent. enabled_leaves (Changes (EnableAutoscale pool spec)) s (λ pools rows. stays (EnableAutoscale pool spec)) spec row))
      changes_now (DisableAutoscale pool) =
          by_row (DisableAutoscale pool) PoolNotFound (disable_autoscale s) (pool_of s pool)
          (λ row found. by_answer (DisableAutoscale pool) (scaling_refusals s row) 200 (drop_scale row.id s) (λ absent. stays (DisableAutoscale pool)))
      changes_now (EvaluateAutoscale pool text) =
          by_row (EvaluateAutoscale pool text) PoolNotFound (evaluate_autoscale s text) (pool_of s pool)
          (λ row found. by_given (EvaluateAutoscale pool text) (formula_shown s text row) (evaluate_refusals s text row)
          (λ absent. stays (EvaluateAutoscale pool text)))
      changes_now (Sample pool percentage) =
          by_row (Sample pool percentage) PoolNotFound (sample_pool s percentage) (pool_of s pool)
          (λ row found. by_answer (Sample pool percentage) (sample_refusals s row) 200 (add_sample (new_sample s row.id CpuPercent percentage) s)
          (λ absent. stays (Sample pool percentage)))
      changes_now Tick = stays Tick

  -- the failures of the task before an event, and after it
  pub failures_by_event : (moment : ℕ) (event : EventKind) (s : State) → AreDistinct same_task s.tasks
      → EventFailures s event job id (failures_of s job id) (failures_of (event_step moment event s).state job id)
  failures_by_event moment event s keys = without_moment (changes_now (at_moment moment s) keys event)
    where
      -- the last moment has no part in it
      without_moment : {before after : Option ℕ} → EventFailures (at_moment moment s) event job id before after
          → EventFailures s event job id before after
      without_moment (same_failures failures) = same_failures failures
      without_moment (task_gone failures) = task_gone failures
      without_moment (added_task row adds there takes) = added_task row adds there takes
      without_moment (reactivated_task row task reactivates there takes task_there can) = reactivated_task row task reactivates there takes task_there can
