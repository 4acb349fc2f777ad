-- Each event leaves sound tables sound, and a refused one changes nothing but the last moment.
use Rattle.std.proofs.Common.{◌≡◌, ℕ, ◌≤◌, true, List, ◌∷◌, is_some, unwrap_or, inl, inr, refl}
use Rattle.bt_base.specs.Moments.{last_moment}
use Rattle.bt_rows.specs.declared.event.EventKind.{EventKind}
use Rattle.bt_rows.specs.declared.event.EventKind.TheVariants.{AddPool, DeletePool, Resize, StopResize, AddJob, PatchJob, DisableJob, EnableJob, TerminateJob, DeleteJob, AddTask, AddTasks}
use Rattle.bt_rows.specs.declared.event.EventKind.TheVariants.{DeleteTask, TerminateTask, ReactivateTask, Take, End, EnableAutoscale, DisableAutoscale, EvaluateAutoscale, Sample, Tick}
use Rattle.bt_rows.specs.declared.event.JobSpec.{JobSpec}
use Rattle.bt_rows.specs.declared.event.TaskSpec.{TaskSpec}
use Rattle.bt_rows.specs.declared.refusal.Refusal.{Refusal}
use Rattle.bt_rows.specs.declared.refusal.Refusal.TheVariants.{PoolNotFound, JobNotFound, TaskNotFound, RunNotFound, JobStateRefuses}
use Rattle.bt_rows.specs.declared.reply.Reply.TheVariants.{Refused}
use Rattle.bt_rows.specs.Ranges.{is_event_in_range}
use Rattle.batch_model.specs.Steps.{refuse_if}
use Rattle.batch_model.specs.Rows.{pool_of, job_of, task_of, run_of, put_pool, add_job_row, put_job, put_task}
use Rattle.batch_model.specs.Jobs.{is_past, job_in, new_job}
use Rattle.batch_model.specs.Stops.{disable, close, terminate}
use Rattle.batch_model.specs.Samples.{new_sample, add_sample}
use Rattle.batch_model.specs.Scaling.{drop_scale, autoscale_enabled, enable_autoscale_refusals, enable_autoscale, scaling_refusals, disable_autoscale}
use Rattle.batch_model.specs.Scaling.{formula_shown, evaluate_refusals, evaluate_autoscale, sample_refusals, sample_pool}
use Rattle.batch_model.specs.PoolEvents.{resized_pool, resize_refusals, resize_pool, stopping, stop_resize_refusals, stop_resize}
use Rattle.batch_model.specs.PoolEvents.{pool_deleted, delete_pool_refusals, delete_pool}
use Rattle.batch_model.specs.Events.{add_pool_refusals, pool_added, add_job, add_job_in, add_job_refusals, task_refusals, task_added, add_task, add_each, accept_all}
use Rattle.batch_model.specs.Events.{patched, patch_refusals, patch_job, disable_refusals, disable_job, enable_refusals, enable_job, user_terminate}
use Rattle.batch_model.specs.Events.{for_row, terminate_refusals, terminate_job, delete_refusals, delete_job}
use Rattle.batch_model.specs.Events.{add_tasks, add_tasks_refusals, take_refusals, run_taken, take_run, end_refusals, run_ended, end_run, event_now, event_step}
use Rattle.batch_model.specs.Events.{task_deleted, delete_found, delete_task_refusals, delete_task, task_terminated, terminate_task_refusals, terminate_found}
use Rattle.batch_model.specs.Events.{terminate_task, reactivated, reactivate_refusals, reactivate_found, reactivate_task_refusals, reactivate_task, at_moment}
use Rattle.batch_model.specs.Sound.{IsSound}
use Rattle.batch_model.specs.Variants.{State, Enabling, Deleting, CpuPercent}
use Rattle.model_lists.proofs.Tests.{passes_or_not}
use Rattle.model_events.proofs.Keeping.{for_row_keeps, Leaves, leaves_if_accepted, given_leaves, answer_leaves, for_row_leaves}
use Rattle.model_events.proofs.MomentPassed.{sound_at_moment}
use Rattle.model_events.proofs.PoolAdded.{add_pool_kept}
use Rattle.model_events.proofs.PoolsChanged.{resize_pool_kept, stop_resize_kept, delete_pool_kept}
use Rattle.model_events.proofs.PoolsScale.{enable_autoscale_kept, disable_autoscale_kept, evaluate_autoscale_kept, sample_pool_kept}
use Rattle.model_events.proofs.JobAdded.{add_job_kept}
use Rattle.model_events.proofs.JobsChanged.{patch_job_kept, disable_job_kept, enable_job_kept, terminate_job_kept, delete_job_kept}
use Rattle.model_events.proofs.TaskAdded.{add_task_kept, add_tasks_kept}
use Rattle.model_events.proofs.TasksChanged.{delete_task_kept, terminate_task_kept, reactivate_task_kept}
use Rattle.model_events.proofs.RunTaken.{take_kept}
use Rattle.model_events.proofs.RunEnded.{end_kept}

module _ (seats : ℕ) (s : State) (h : IsSound seats s) where
  -- each event at the tables' moment
  sound_now : (event : EventKind) → is_event_in_range event ≡ true → IsSound seats (event_now event s).state
  sound_now (AddPool spec) k = add_pool_kept seats s spec k h
  sound_now (DeletePool pool) k =
      for_row_keeps (IsSound seats) s h PoolNotFound (delete_pool s) (pool_of s pool) (λ row found. delete_pool_kept seats s pool row found h)
  sound_now (Resize pool spec) k =
      for_row_keeps (IsSound seats) s h PoolNotFound (resize_pool s spec) (pool_of s pool) (λ row found. resize_pool_kept seats s pool row found h spec k)
  sound_now (StopResize pool) k =
      for_row_keeps (IsSound seats) s h PoolNotFound (stop_resize s) (pool_of s pool) (λ row found. stop_resize_kept seats s pool row found h)
  sound_now (AddJob job spec) k = add_job_kept seats s job spec k h
  sound_now (PatchJob job patch) k =
      for_row_keeps (IsSound seats) s h JobNotFound (patch_job s patch) (job_of s job) (λ row found. patch_job_kept seats s job row found h patch k)
  sound_now (DisableJob job option) k =
      for_row_keeps (IsSound seats) s h JobNotFound (disable_job s option) (job_of s job) (λ row found. disable_job_kept seats s job row found h option)
  sound_now (EnableJob job) k =
      for_row_keeps (IsSound seats) s h JobNotFound (enable_job s) (job_of s job) (λ row found. enable_job_kept seats s job row found h)
  sound_now (TerminateJob job reason) k =
      for_row_keeps (IsSound seats) s h JobNotFound (terminate_job s reason) (job_of s job)
      (λ row found. terminate_job_kept seats s job row found h reason k)
  sound_now (DeleteJob job) k =
      for_row_keeps (IsSound seats) s h JobNotFound (delete_job s) (job_of s job) (λ row found. delete_job_kept seats s job row found h)
  sound_now (AddTask job spec) k =
      for_row_keeps (IsSound seats) s h JobNotFound (add_task s spec) (job_of s job) (λ row. add_task_kept seats s job spec row k h)
  sound_now (AddTasks job specs) k =
      for_row_keeps (IsSound seats) s h JobNotFound (add_tasks s specs) (job_of s job) (λ row. add_tasks_kept seats s job specs row k h)
  sound_now (DeleteTask job task) k =
      for_row_keeps (IsSound seats) s h JobNotFound (delete_task s task) (job_of s job) (λ row found. delete_task_kept seats s task row h)
  sound_now (TerminateTask job task) k =
      for_row_keeps (IsSound seats) s h JobNotFound (terminate_task s task) (job_of s job) (λ row found. terminate_task_kept seats s task row h)
  sound_now (ReactivateTask job task) k =
      for_row_keeps (IsSound seats) s h JobNotFound (reactivate_task s task) (job_of s job) (λ row found. reactivate_task_kept seats s task row h)
  sound_now (Take run) k = for_row_keeps (IsSound seats) s h RunNotFound (take_run s) (run_of s run) (λ row. take_kept seats s run row h)
  sound_now (End run ending) k = for_row_keeps (IsSound seats) s h RunNotFound (end_run s ending) (run_of s run) (λ row. end_kept seats s run ending row h)
  sound_now (EnableAutoscale pool spec) k =
      for_row_keeps (IsSound seats) s h PoolNotFound (enable_autoscale s spec) (pool_of s pool)
      (λ row found. enable_autoscale_kept seats s pool row found h spec k)
  sound_now (DisableAutoscale pool) k =
      for_row_keeps (IsSound seats) s h PoolNotFound (disable_autoscale s) (pool_of s pool) (λ row found. disable_autoscale_kept seats s pool row found h)
  sound_now (EvaluateAutoscale pool text) k =
      for_row_keeps (IsSound seats) s h PoolNotFound (evaluate_autoscale s text) (pool_of s pool)
      (λ row found. evaluate_autoscale_kept seats s pool row found h text)
  sound_now (Sample pool percentage) k =
      for_row_keeps (IsSound seats) s h PoolNotFound (sample_pool s percentage) (pool_of s pool)
      (λ row found. sample_pool_kept seats s pool row found h percentage k)
  sound_now Tick k = h

-- each event leaves sound tables sound
pub sound_by_event : (seats moment : ℕ) (event : EventKind) (s : State) → moment ≤ last_moment → is_event_in_range event ≡ true → IsSound seats s
    → IsSound seats (event_step moment event s).state
sound_by_event seats moment event s last in_range h = sound_now seats (at_moment moment s) (sound_at_moment seats moment s last h) event in_range

-- refused events

module _ (s : State) where
  -- a job whose id no job has is added in a pool that is there
  job_leaves : (id : List ℕ) (spec : JobSpec) → Leaves s (add_job s id spec)
  job_leaves id spec refusal = elim (passes_or_not (is_some (job_of s id))) [
    | inl e ↦ rw e (λ k. refl)
    | inr new ↦
        rw new
        (for_row_leaves s PoolNotFound (add_job_in s id spec) (pool_of s spec.pool)
        (λ pool. answer_leaves s (add_job_refusals s pool) 201 (add_job_row (new_job s.moment id pool.id spec) s)) refusal)
  ]

  -- a collection is not refused once its elements are answered
  tasks_leave : (specs : List TaskSpec) (id : List ℕ) → Leaves s (event_now (AddTasks id specs) s)
  tasks_leave specs id =
      for_row_leaves s JobNotFound (add_tasks s specs) (job_of s id)
      (λ job. given_leaves s (accept_all (add_each s job specs)) (λ refusal e. cc) (add_tasks_refusals job specs))

  -- each event at the tables' moment
  refused_now : (event : EventKind) → Leaves s (event_now event s)
  refused_now (AddPool spec) = answer_leaves s (add_pool_refusals s spec) 201 (pool_added s spec)
  refused_now (DeletePool pool) =
      for_row_leaves s PoolNotFound (delete_pool s) (pool_of s pool) (λ row. answer_leaves s (delete_pool_refusals row) 202 (pool_deleted s row))
  refused_now (Resize pool spec) =
      for_row_leaves s PoolNotFound (resize_pool s spec) (pool_of s pool)
      (λ row. answer_leaves s (resize_refusals s row) 202 (put_pool (resized_pool s.moment spec row) s))
  refused_now (StopResize pool) =
      for_row_leaves s PoolNotFound (stop_resize s) (pool_of s pool)
      (λ row. answer_leaves s (stop_resize_refusals row) 202 (put_pool (stopping row) s))
  refused_now (AddJob job spec) = job_leaves job spec
  refused_now (PatchJob job patch) =
      for_row_leaves s JobNotFound (patch_job s patch) (job_of s job)
      (λ row. answer_leaves s (patch_refusals patch row) 200 (put_job (patched patch row) s))
  refused_now (DisableJob job option) =
      for_row_leaves s JobNotFound (disable_job s option) (job_of s job) (λ row. answer_leaves s (disable_refusals row) 202 (disable row option s))
  refused_now (EnableJob job) =
      for_row_leaves s JobNotFound (enable_job s) (job_of s job) (λ row. answer_leaves s (enable_refusals row) 202 (put_job (job_in Enabling row) s))
  refused_now (TerminateJob job reason) =
      for_row_leaves s JobNotFound (terminate_job s reason) (job_of s job)
      (λ row. answer_leaves s (terminate_refusals row) 202 (terminate (unwrap_or reason user_terminate) row s))
  refused_now (DeleteJob job) =
      for_row_leaves s JobNotFound (delete_job s) (job_of s job) (λ row. answer_leaves s (delete_refusals row) 202 (close Deleting user_terminate row s))
  refused_now (AddTask job spec) =
      for_row_leaves s JobNotFound (add_task s spec) (job_of s job)
      (λ row. answer_leaves s (refuse_if (is_past row.state) (JobStateRefuses row.state) ∷ task_refusals s row spec) 201 (task_added s row spec))
  refused_now (AddTasks job specs) = tasks_leave specs job
  refused_now (DeleteTask job task) =
      for_row_leaves s JobNotFound (delete_task s task) (job_of s job)
      (λ row. given_leaves s (for_row s TaskNotFound (delete_found s) (task_of s row.id task))
      (for_row_leaves s TaskNotFound (delete_found s) (task_of s row.id task) (λ one. leaves_if_accepted s (task_deleted s one) 200))
      (delete_task_refusals row))
  refused_now (TerminateTask job task) =
      for_row_leaves s JobNotFound (terminate_task s task) (job_of s job)
      (λ row. for_row_leaves s TaskNotFound (terminate_found s) (task_of s row.id task)
      (λ one. answer_leaves s (terminate_task_refusals one) 204 (task_terminated s one)))
  refused_now (ReactivateTask job task) =
      for_row_leaves s JobNotFound (reactivate_task s task) (job_of s job)
      (λ row. given_leaves s (for_row s TaskNotFound (reactivate_found s) (task_of s row.id task))
      (for_row_leaves s TaskNotFound (reactivate_found s) (task_of s row.id task)
      (λ one. answer_leaves s (reactivate_refusals one) 204 (put_task (reactivated one) s)))
      (reactivate_task_refusals row))
  refused_now (Take run) = for_row_leaves s RunNotFound (take_run s) (run_of s run) (λ row. answer_leaves s (take_refusals row) 200 (run_taken s row))
  refused_now (End run ending) =
      for_row_leaves s RunNotFound (end_run s ending) (run_of s run) (λ row. answer_leaves s (end_refusals row) 200 (run_ended s ending row))
  refused_now (EnableAutoscale pool spec) =
      for_row_leaves s PoolNotFound (enable_autoscale s spec) (pool_of s pool)
      (λ row. answer_leaves s (enable_autoscale_refusals s spec row) 200 (autoscale_enabled s spec row))
  refused_now (DisableAutoscale pool) =
      for_row_leaves s PoolNotFound (disable_autoscale s) (pool_of s pool) (λ row. answer_leaves s (scaling_refusals s row) 200 (drop_scale row.id s))
  refused_now (EvaluateAutoscale pool text) =
      for_row_leaves s PoolNotFound (evaluate_autoscale s text) (pool_of s pool)
      (λ row. given_leaves s (formula_shown s text row) (λ refusal e. cc) (evaluate_refusals s text row))
  refused_now (Sample pool percentage) =
      for_row_leaves s PoolNotFound (sample_pool s percentage) (pool_of s pool)
      (λ row. answer_leaves s (sample_refusals s row) 200 (add_sample (new_sample s row.id CpuPercent percentage) s))
  refused_now Tick = λ refusal e. refl

-- a refused event leaves the tables as they are at its moment
pub refused_keeps : (moment : ℕ) (event : EventKind) (s : State) (refusal : Refusal) → (event_step moment event s).reply ≡ Refused refusal
    → (event_step moment event s).state ≡ at_moment moment s
refused_keeps moment event s = refused_now (at_moment moment s) event
