-- An event leaves a job over, unless it adds one with its id.
use Rattle.std.proofs.Common.{◌≡◌, ◌+◌, ℕ, Bool, true, false, not, List, [], ◌∷◌, Option, Some, None, cond, is_some, unwrap_or, refl, sym, ap, ◌∙◌, subst}
use Rattle.std.specs.Option.{option_map_or}
use Rattle.bt_base.specs.Ids.{same}
use Rattle.bt_rows.specs.declared.event.DisableTasks.{DisableTasks}
use Rattle.bt_rows.specs.declared.event.DisableTasks.TheVariants.{Requeue, Terminate, Wait}
use Rattle.bt_rows.specs.declared.event.EventKind.{EventKind}
use Rattle.bt_rows.specs.declared.event.EventKind.TheVariants.{AddPool, DeletePool, Resize, StopResize, AddJob, PatchJob, DisableJob, EnableJob}
use Rattle.bt_rows.specs.declared.event.EventKind.TheVariants.{TerminateJob, DeleteJob, AddTask, AddTasks, DeleteTask, TerminateTask, ReactivateTask, Take, End}
use Rattle.bt_rows.specs.declared.event.EventKind.TheVariants.{EnableAutoscale, DisableAutoscale, EvaluateAutoscale, Sample, Tick}
use Rattle.bt_rows.specs.declared.event.JobPatch.{JobPatch}
use Rattle.bt_rows.specs.declared.event.JobSpec.{JobSpec}
use Rattle.bt_rows.specs.declared.event.Limits.{Limits}
use Rattle.bt_rows.specs.declared.event.TaskSpec.{TaskSpec}
use Rattle.bt_rows.specs.declared.refusal.Refusal.{Refusal}
use Rattle.bt_rows.specs.declared.refusal.Refusal.TheVariants.{PoolNotFound, JobNotFound, TaskNotFound, JobStateRefuses, RunNotFound}
use Rattle.batch_model.specs.Endings.{is_success}
use Rattle.batch_model.specs.Events.{refuse, accept, answer, event_step, event_now, at_moment, accept_all, add_pool_refusals, pool_added, add_job, add_job_in}
use Rattle.batch_model.specs.Events.{add_job_refusals, patch_job, limited, patch_refusals, patched, disable_job, enable_job, terminate_job, user_terminate}
use Rattle.batch_model.specs.Events.{delete_job, delete_refusals, add_task, task_refusals, task_added, after_element, add_each, add_tasks, add_tasks_refusals}
use Rattle.batch_model.specs.Events.{for_row, delete_found, delete_task_refusals, delete_task, terminate_task_refusals, terminate_found, terminate_task, reactivated}
use Rattle.batch_model.specs.Events.{reactivate_refusals, reactivate_found, reactivate_task_refusals, reactivate_task, run_taken, take_run, take_refusals, ended_run}
use Rattle.batch_model.specs.Events.{ended_by, run_ended, end_run, end_refusals, task_terminated, task_deleted}
use Rattle.batch_model.specs.Finding.{first_of, at_row}
use Rattle.batch_model.specs.Jobs.{is_past, is_disabled, can_disable, job_in, new_job}
use Rattle.batch_model.specs.Leaving.{leave}
use Rattle.batch_model.specs.PoolEvents.{resize_refusals, resized_pool, resize_pool, stop_resize_refusals, stopping, stop_resize}
use Rattle.batch_model.specs.PoolEvents.{delete_pool_refusals, deleted_pool, drop_scale, is_leaving_from, pool_deleted, delete_pool}
use Rattle.batch_model.specs.Pools.{new_pool}
use Rattle.batch_model.specs.Preparing.{preparation_done, give_up, preparation_failed, preparation_of, preparation_ended_at, prep_of_run, released}
use Rattle.batch_model.specs.Preps.{change_prep, failed_preparation}
use Rattle.batch_model.specs.Rows.{is_run, job_of, task_of, pool_of, node_of, run_of, put_pool, put_job, put_task, change_runs, add_pool_row, add_job_row}
use Rattle.batch_model.specs.Samples.{new_sample, add_sample}
use Rattle.batch_model.specs.Scaling.{autoscale_enabled, enable_autoscale_refusals, enable_autoscale, scaling_refusals, disable_autoscale}
use Rattle.batch_model.specs.Scaling.{formula_shown, evaluate_refusals, evaluate_autoscale, sample_refusals, sample_pool}
use Rattle.batch_model.specs.Starts.{is_tried_again, start_failed, start_of, start_ended_at, start_ended_in}
use Rattle.batch_model.specs.Steps.{Answered, refuse_if}
use Rattle.batch_model.specs.Stops.{disable, close, terminate, job_for}
use Rattle.batch_model.specs.Tasks.{is_placed}
use Rattle.batch_model.specs.Variants.{State, CpuPercent, Dealloc, ByRequeue, ByTerminate, TaskCompletion, RetainedData, NodeRow, NodeStage, Starting, Usable, StartFailed}
use Rattle.batch_model.specs.Variants.{Leaving, JobRow, JobState, JobActive, Disabling, Disabled, Enabling, Terminating, JobCompleted, Deleting, StartTask}
use Rattle.batch_model.specs.Variants.{TaskRow, RunRow, RunKind, StartRun, PrepRun, TaskRun, CoordinationRun, ReleaseRun, PrepRow, Ending}
use Rattle.model_tables.proofs.ScalingParts.{given_scale_leaves, enabled_leaves}
use Rattle.job_laws.specs.OverJobs.{is_over_state, is_job_over, adds_job}
use Rattle.job_laws.proofs.OverRows.{own_job, Keeps, job_added, job_put}

-- states that are not over

pub disabled_not_over : (state : JobState) → is_disabled state ≡ true → is_over_state state ≡ false
disabled_not_over Disabled e = refl
disabled_not_over JobActive e = refl
disabled_not_over Disabling e = refl
disabled_not_over Enabling e = refl
disabled_not_over Terminating e = refl
disabled_not_over JobCompleted e = cc
disabled_not_over Deleting e = cc

pub disabling_not_over : (state : JobState) → can_disable state ≡ true → is_over_state state ≡ false
disabling_not_over Disabled e = refl
disabling_not_over JobActive e = refl
disabling_not_over Disabling e = refl
disabling_not_over Enabling e = refl
disabling_not_over Terminating e = refl
disabling_not_over JobCompleted e = cc
disabling_not_over Deleting e = cc

pub not_past_not_over : (state : JobState) → is_past state ≡ false → is_over_state state ≡ false
not_past_not_over Disabled e = refl
not_past_not_over JobActive e = refl
not_past_not_over Disabling e = refl
not_past_not_over Enabling e = refl
not_past_not_over Terminating e = refl
not_past_not_over JobCompleted e = cc
not_past_not_over Deleting e = cc

-- changes that leave the rows of jobs

abbrev pub HasSameJobs : State → State → Type 0
HasSameJobs s t = t.jobs ≡ s.jobs

-- nodes leave
pub left_jobs : (option : Dealloc) (test : NodeRow → Bool) (s : State) → HasSameJobs s (leave option test s)
left_jobs ByRequeue test s = refl
left_jobs ByTerminate test s = refl
left_jobs TaskCompletion test s = refl
left_jobs RetainedData test s = refl

failed_start : (node : NodeRow) (start : StartTask) (s : State) (b : Bool) → b ≡ is_tried_again s (node.tries + 1) start → HasSameJobs s (start_failed node start s)
failed_start node start s true e = rw (← e) refl
failed_start node start s false e = rw (← e) refl

start_failures : (node : NodeRow) (o : Option StartTask) (s : State) → HasSameJobs s (at_row (start_failed node) o s)
start_failures node None s = refl
start_failures node (Some start) s = failed_start node start s (is_tried_again s (node.tries + 1) start) refl

start_at : (node : NodeRow) (ending : Ending) (s : State) (b : Bool) → b ≡ is_success ending → HasSameJobs s (start_ended_at node ending s)
start_at node ending s true e = rw (← e) refl
start_at node ending s false e = rw (← e) (start_failures node (start_of s node) s)

start_in : (stage : NodeStage) (node : NodeRow) (ending : Ending) (s : State) → HasSameJobs s (start_ended_in stage node ending s)
start_in (Leaving option) node ending s = refl
start_in Starting node ending s = start_at node ending s (is_success ending) refl
start_in Usable node ending s = start_at node ending s (is_success ending) refl
start_in StartFailed node ending s = start_at node ending s (is_success ending) refl

start_jobs : (run : RunRow) (ending : Ending) (s : State) (o : Option NodeRow)
    → HasSameJobs s (at_row (λ (node : NodeRow). start_ended_in node.stage node ending) o s)
start_jobs run ending s None = refl
start_jobs run ending s (Some node) = start_in node.stage node ending s

given_up : (prep : PrepRow) (preparation : StartTask) (s : State) (b : Bool) → b ≡ preparation.wait → HasSameJobs s (give_up prep preparation s)
given_up prep preparation s true e = rw (← e) refl
given_up prep preparation s false e = rw (← e) refl

failed_prep : (prep : PrepRow) (run : RunRow) (preparation : StartTask) (s : State) (b : Bool) → b ≡ is_tried_again s (prep.tries + 1) preparation
    → HasSameJobs s (preparation_failed prep run preparation s)
failed_prep prep run preparation s true e = rw (← e) refl
failed_prep prep run preparation s false e = rw (← e) (given_up prep preparation s preparation.wait refl)

prep_failures : (prep : PrepRow) (run : RunRow) (o : Option StartTask) (s : State) → HasSameJobs s (at_row (preparation_failed prep run) o s)
prep_failures prep run None s = refl
prep_failures prep run (Some preparation) s = failed_prep prep run preparation s (is_tried_again s (prep.tries + 1) preparation) refl

prep_at : (prep : PrepRow) (run : RunRow) (ending : Ending) (s : State) (asked good : Bool)
    → HasSameJobs s
    (cond asked (change_prep prep failed_preparation s)
    (cond good (preparation_done prep s) (at_row (preparation_failed prep run) (preparation_of s prep) s)))
prep_at prep run ending s true good = refl
prep_at prep run ending s false true = refl
prep_at prep run ending s false false = prep_failures prep run (preparation_of s prep) s

prep_jobs : (run : RunRow) (ending : Ending) (s : State) (o : Option PrepRow)
    → HasSameJobs s (at_row (λ (prep : PrepRow). preparation_ended_at prep run ending) o s)
prep_jobs run ending s None = refl
prep_jobs run ending s (Some prep) = prep_at prep run ending s run.asked (is_success ending)

release_jobs : (s : State) (o : Option PrepRow) → HasSameJobs s (at_row (λ (prep : PrepRow). change_prep prep released) o s)
release_jobs s None = refl
release_jobs s (Some prep) = refl

ended_jobs : (kind : RunKind) (run : RunRow) (ending : Ending) (s : State) → HasSameJobs s (ended_by kind run ending s)
ended_jobs StartRun run ending s = start_jobs run ending s (node_of s run.node)
ended_jobs PrepRun run ending s = prep_jobs run ending s (prep_of_run s run)
ended_jobs TaskRun run ending s = refl
ended_jobs CoordinationRun run ending s = refl
ended_jobs ReleaseRun run ending s = release_jobs s (prep_of_run s run)

each_added : (job : JobRow) (specs : List TaskSpec) (s : State) → HasSameJobs s (add_each s job specs).state
each_added job [] s = refl
each_added job (spec ∷ specs) s = after (first_of (task_refusals s job spec)) (each_added job specs (after_element s job spec (first_of (task_refusals s job spec))))
  where
    after : (o : Option Refusal) → HasSameJobs (after_element s job spec o) (add_each (after_element s job spec o) job specs).state
        → HasSameJobs s (add_each (after_element s job spec o) job specs).state
    after None h = h
    after (Some refusal) h = h

module _ (id : List ℕ) where
  pub same_jobs : (s t : State) → HasSameJobs s t → Keeps id s t
  same_jobs s t e h = subst (λ jobs. is_job_over (record s { jobs = jobs }) id ≡ true) (sym e) h

  -- by the refusals of an event

  by_given : (s : State) (accepted : Answered) (refusals : List (Option Refusal)) → Keeps id s accepted.state
      → Keeps id s (option_map_or (λ refusal. refuse refusal s) (first_of refusals) accepted).state
  by_given s accepted refusals keeps h = by_first (first_of refusals)
    where
      by_first : (o : Option Refusal) → is_job_over (option_map_or (λ refusal. refuse refusal s) o accepted).state id ≡ true
      by_first None = keeps h
      by_first (Some refusal) = h

  by_answer : (s : State) (refusals : List (Option Refusal)) (status : ℕ) (after : State) → Keeps id s after
      → Keeps id s (answer s refusals status after).state
  by_answer s refusals status after keeps = by_given s (accept status after) refusals keeps

  -- refused under a condition alone
  unless : (s : State) (b : Bool) (refusal : Refusal) (status : ℕ) (after : State) → (b ≡ false → Keeps id s after)
      → Keeps id s (answer s (refuse_if b refusal ∷ []) status after).state
  unless s true refusal status after keeps h = h
  unless s false refusal status after keeps h = keeps refl h

  by_row : {R : Type 0} (s : State) (refusal : Refusal) (answer_for : R → Answered) (o : Option R) → ((row : R) → o ≡ Some row → Keeps id s (answer_for row).state)
      → Keeps id s (for_row s refusal answer_for o).state
  by_row s refusal answer_for None each h = h
  by_row s refusal answer_for (Some row) each h = each row refl h

  -- jobs

  -- a job that is not over gets another state
  pub moved : (s : State) (row next : JobRow) → job_of s row.id ≡ Some row → next.id ≡ row.id → is_over_state row.state ≡ false → Keeps id s (put_job next s)
  moved s row next there named still = job_put id s row next there named (λ h. let not_over : is_over_state row.state ≡ false = still in cc)

  pub disabled : (s : State) (row : JobRow) (option : DisableTasks) → job_of s row.id ≡ Some row → is_over_state row.state ≡ false
      → Keeps id s (disable row option s)
  disabled s row Requeue there still = moved s row (job_in Disabling row) there refl still
  disabled s row Terminate there still = moved s row (job_in Disabling row) there refl still
  disabled s row Wait there still = moved s row (job_in Disabling row) there refl still

  limits_named : (o : Option Limits) (row : JobRow) → (at_row limited o row).id ≡ row.id
  limits_named None row = refl
  limits_named (Some limits) row = refl

  limits_state : (o : Option Limits) (row : JobRow) → (at_row limited o row).state ≡ row.state
  limits_state None row = refl
  limits_state (Some limits) row = refl

  job_patched : (s : State) (patch : JobPatch) (row : JobRow) → job_of s row.id ≡ Some row → Keeps id s (put_job (patched patch row) s)
  job_patched s patch row there =
      job_put id s row (patched patch row) there (limits_named patch.limits row) (λ h. ap is_over_state (limits_state patch.limits row) ∙ h)

  not_false : (b : Bool) → not b ≡ false → b ≡ true
  not_false true e = refl
  not_false false e = cc

  new_job_added : (s : State) (new_id : List ℕ) (spec : JobSpec) → same new_id id ≡ false → Keeps id s (add_job s new_id spec).state
  new_job_added s new_id spec other = by_there (is_some (job_of s new_id)) refl
    where
      added : Keeps id s (for_row s PoolNotFound (add_job_in s new_id spec) (pool_of s spec.pool)).state
      added =
          by_row s PoolNotFound (add_job_in s new_id spec) (pool_of s spec.pool)
          (λ pool found. by_answer s (add_job_refusals s pool) 201 (add_job_row (new_job s.moment new_id pool.id spec) s)
          (job_added id s (new_job s.moment new_id pool.id spec) other))

      by_there : (b : Bool) → b ≡ is_some (job_of s new_id) → Keeps id s (add_job s new_id spec).state
      by_there true e = rw (← e) (λ h. h)
      by_there false e = rw (← e) added

  -- tasks

  deleted_by : (s : State) (task : TaskRow) (b : Bool) → b ≡ is_placed task.stage → Keeps id s (task_deleted s task)
  deleted_by s task true e = rw (← e) (λ h. h)
  deleted_by s task false e = rw (← e) (λ h. h)

  terminated_by : (s : State) (task : TaskRow) (b : Bool) → b ≡ is_placed task.stage → Keeps id s (task_terminated s task)
  terminated_by s task true e = rw (← e) (λ h. h)
  terminated_by s task false e = rw (← e) (λ h. h)

  module _ (s : State) where
    -- each event at the tables' moment
    keeps_now : (event : EventKind) → adds_job event id ≡ false → Keeps id s (event_now event s).state
    keeps_now (AddPool spec) other =
        by_answer s (add_pool_refusals s spec) 201 (pool_added s spec)
        (given_scale_leaves (Keeps id s) (add_pool_row (new_pool s.moment spec) s) (λ rows h. h) spec.id spec.scale)
    keeps_now (DeletePool pool) other =
        by_row s PoolNotFound (delete_pool s) (pool_of s pool)
        (λ row found. by_answer s (delete_pool_refusals row) 202 (pool_deleted s row)
        (same_jobs s (pool_deleted s row)
        (left_jobs ByRequeue (is_leaving_from row.id) (drop_scale row.id (put_pool (deleted_pool row) s)))))
    keeps_now (Resize pool spec) other =
        by_row s PoolNotFound (resize_pool s spec) (pool_of s pool)
        (λ row found. by_answer s (resize_refusals s row) 202 (put_pool (resized_pool s.moment spec row) s) (λ h. h))
    keeps_now (StopResize pool) other =
        by_row s PoolNotFound (stop_resize s) (pool_of s pool)
        (λ row found. by_answer s (stop_resize_refusals row) 202 (put_pool (stopping row) s) (λ h. h))
    keeps_now (AddJob new_id spec) other = new_job_added s new_id spec other
    keeps_now (PatchJob job patch) other =
        by_row s JobNotFound (patch_job s patch) (job_of s job)
        (λ row found. by_answer s (patch_refusals patch row) 200 (put_job (patched patch row) s) (job_patched s patch row (own_job s job row found)))
    keeps_now (DisableJob job option) other =
        by_row s JobNotFound (disable_job s option) (job_of s job)
        (λ row found. unless s (not (can_disable row.state)) (JobStateRefuses row.state) 202 (disable row option s)
        (λ e. disabled s row option (own_job s job row found) (disabling_not_over row.state (not_false (can_disable row.state) e))))
    keeps_now (EnableJob job) other =
        by_row s JobNotFound (enable_job s) (job_of s job)
        (λ row found. unless s (not (is_disabled row.state)) (JobStateRefuses row.state) 202 (put_job (job_in Enabling row) s)
        (λ e. moved s row (job_in Enabling row) (own_job s job row found) refl (disabled_not_over row.state (not_false (is_disabled row.state) e))))
    keeps_now (TerminateJob job reason) other =
        by_row s JobNotFound (terminate_job s reason) (job_of s job)
        (λ row found. unless s (is_past row.state) (JobStateRefuses row.state) 202 (terminate (unwrap_or reason user_terminate) row s)
        (λ e. moved s row (job_for Terminating (unwrap_or reason user_terminate) row) (own_job s job row found) refl (not_past_not_over row.state e)))
    keeps_now (DeleteJob job) other =
        by_row s JobNotFound (delete_job s) (job_of s job)
        (λ row found. by_answer s (delete_refusals row) 202 (close Deleting user_terminate row s)
        (job_put id s row (job_for Deleting user_terminate row) (own_job s job row found) refl (λ h. refl)))
    keeps_now (AddTask job spec) other =
        by_row s JobNotFound (add_task s spec) (job_of s job)
        (λ row found. by_answer s (refuse_if (is_past row.state) (JobStateRefuses row.state) ∷ task_refusals s row spec) 201 (task_added s row spec) (λ h. h))
    keeps_now (AddTasks job specs) other =
        by_row s JobNotFound (add_tasks s specs) (job_of s job)
        (λ row found. by_given s (accept_all (add_each s row specs)) (add_tasks_refusals row specs)
        (same_jobs s (add_each s row specs).state (each_added row specs s)))
    keeps_now (DeleteTask job named) other =
        by_row s JobNotFound (delete_task s named) (job_of s job)
        (λ row found. by_given s (for_row s TaskNotFound (delete_found s) (task_of s row.id named)) (delete_task_refusals row)
        (by_row s TaskNotFound (delete_found s) (task_of s row.id named) (λ task there. deleted_by s task (is_placed task.stage) refl)))
    keeps_now (TerminateTask job named) other =
        by_row s JobNotFound (terminate_task s named) (job_of s job)
        (λ row found. by_row s TaskNotFound (terminate_found s) (task_of s row.id named)
        (λ task there. by_answer s (terminate_task_refusals task) 204 (task_terminated s task) (terminated_by s task (is_placed task.stage) refl)))
    keeps_now (ReactivateTask job named) other =
        by_row s JobNotFound (reactivate_task s named) (job_of s job)
        (λ row found. by_given s (for_row s TaskNotFound (reactivate_found s) (task_of s row.id named)) (reactivate_task_refusals row)
        (by_row s TaskNotFound (reactivate_found s) (task_of s row.id named)
        (λ task there. by_answer s (reactivate_refusals task) 204 (put_task (reactivated task) s) (λ h. h))))
    keeps_now (Take number) other =
        by_row s RunNotFound (take_run s) (run_of s number)
        (λ run found. by_answer s (take_refusals run) 200 (run_taken s run) (λ h. h))
    keeps_now (End number ending) other =
        by_row s RunNotFound (end_run s ending) (run_of s number)
        (λ run found. by_answer s (end_refusals run) 200 (run_ended s ending run)
        (same_jobs s (run_ended s ending run) (ended_jobs run.kind run ending (change_runs (is_run run.number) (ended_run s.moment ending) s))))
    keeps_now (EnableAutoscale pool spec) other =
        by_row s PoolNotFound (enable_autoscale s spec) (pool_of s pool)
        (λ row found. by_answer s (enable_autoscale_refusals s spec row) 200 (autoscale_enabled s spec row)
        (enabled_leaves (Keeps id s) s (λ pools rows h. h) spec row))
    keeps_now (DisableAutoscale pool) other =
        by_row s PoolNotFound (disable_autoscale s) (pool_of s pool)
        (λ row found. by_answer s (scaling_refusals s row) 200 (drop_scale row.id s) (λ h. h))
    keeps_now (EvaluateAutoscale pool text) other =
        by_row s PoolNotFound (evaluate_autoscale s text) (pool_of s pool)
        (λ row found. by_given s (formula_shown s text row) (evaluate_refusals s text row) (λ h. h))
    keeps_now (Sample pool percentage) other =
        by_row s PoolNotFound (sample_pool s percentage) (pool_of s pool)
        (λ row found. by_answer s (sample_refusals s row) 200 (add_sample (new_sample s row.id CpuPercent percentage) s) (λ h. h))
    keeps_now Tick other = λ h. h

  pub over_by_event : (moment : ℕ) (event : EventKind) (s : State) → adds_job event id ≡ false → Keeps id s (event_step moment event s).state
  over_by_event moment event s other = keeps_now (at_moment moment s) event other
