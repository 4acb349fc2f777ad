-- A due step raises the failures of a task only by one, while they are below the limit of its retries.
use Rattle.std.proofs.Common.{◌≡◌, ℕ, ◌+◌, Bool, true, false, not, List, Option, Some, None, cond, inl, inr, refl, sym, ◌∙◌, ap, subst}
use Rattle.std.specs.List.{find}
use Rattle.std.specs.Option.{option_map}
use Rattle.bt_base.specs.Ids.{same}
use Rattle.bt_base.proofs.SameIds.{same_equiv}
use Rattle.bt_rows.specs.Keys.{same_task}
use Rattle.bt_rows.specs.declared.due.Due.{Due}
use Rattle.bt_rows.specs.declared.due.Outcome.TheVariants.{Again}
use Rattle.bt_rows.specs.declared.due.Due.TheVariants.{TaskSettled}
use Rattle.bt_rows.specs.declared.event.DisableTasks.TheVariants.{Requeue}
use Rattle.batch_model.specs.Dues.{new_node, begin_start, due_step}
use Rattle.batch_model.specs.Finding.{is_below}
use Rattle.batch_model.specs.JobRules.{all_complete, drop_job}
use Rattle.batch_model.specs.Jobs.{can_disable, is_past}
use Rattle.batch_model.specs.Placing.{placed, begin_preparation, prepare_with, place}
use Rattle.batch_model.specs.Preps.{has_preparation}
use Rattle.batch_model.specs.Metrics.{sampled_metrics}
use Rattle.batch_model.specs.Rows.{is_node, is_task, is_job, job_of, task_of, put_task, change_tasks, add_node_row}
use Rattle.batch_model.specs.Settling.{is_over, task_failed, act}
use Rattle.batch_model.specs.Sound.{IsSound}
use Rattle.batch_model.specs.Steps.{DueStep}
use Rattle.batch_model.specs.Stops.{disable, terminate}
use Rattle.batch_model.specs.Tasks.{is_in_job, retry_limit, completed, terminated, again}
use Rattle.batch_model.specs.Variants.{State, NodeRow, JobRow, Terminating, JobAction, NoAction, ToDisable, ToTerminate, StartTask, TaskRow, Closed}
use Rattle.batch_model.specs.Variants.{WantWall}
use Rattle.batch_model.specs.WallTimes.{wall_time_over}
use Rattle.model_lists.proofs.RowLists.{find_agree}
use Rattle.model_lists.proofs.Tests.{and_first}
use Rattle.model_tables.proofs.ScalingParts.{samples_leave}
use Rattle.model_laws.specs.Retries.{failures_of, DueFailures, same_failures, task_gone, tried_again}
use Rattle.model_laws.proofs.DueCases.{DueCase, task_stops, release_stops, job_stops, task_deleted, task_terminated, task_requeued, task_tried, task_completed}
use Rattle.model_laws.proofs.DueCases.{job_active, job_done, job_rests, releases, job_goes, job_stays, pool_goes, pool_reaches, pool_fails, pool_stops}
use Rattle.model_laws.proofs.DueCases.{takes_samples, pool_scales, node_departs, node_goes, node_comes, places, due_cases}
use Rattle.model_laws.proofs.KeptFailures.{alike_ids, keyed_like, HasSame, stop_keeps, close_keeps, disable_keeps, leave_keeps, HasSameOrGone}
use Rattle.model_laws.proofs.KeptFailures.{tasks_dropped, task_dropped}
use Rattle.model_laws.proofs.KeptFailures.{own_task, put_same, put_other, put_own}

module _ (job id : List ℕ) where
  -- what a completed task does to its job

  disabled_if : (row : JobRow) (t : State) (b : Bool) → HasSame job id t (cond b (disable row Requeue t) t)
  disabled_if row t true = disable_keeps job id Requeue row t
  disabled_if row t false = refl

  terminated_unless : (row : JobRow) (t : State) (b : Bool) → HasSame job id t (cond b t (terminate task_failed row t))
  terminated_unless row t true = refl
  terminated_unless row t false = close_keeps job id Terminating task_failed row t

  acted : (action : JobAction) (row : JobRow) (t : State) → HasSame job id t (act action row t)
  acted NoAction row t = refl
  acted ToDisable row t = disabled_if row t (can_disable row.state)
  acted ToTerminate row t = terminated_unless row t (is_past row.state)

  acted_if : (b : Bool) (action : JobAction) (row : JobRow) (t : State) → HasSame job id t (cond b (act action row t) t)
  acted_if true action row t = acted action row t
  acted_if false action row t = refl

  -- nodes and preparations

  begun_start : (o : Option StartTask) (row : NodeRow) (t : State) → HasSame job id t (begin_start o row t)
  begun_start None row t = refl
  begun_start (Some start) row t = refl

  begun_preparation : (row : JobRow) (at : NodeRow) (preparation : StartTask) (t : State) (b : Bool)
      → HasSame job id t (cond b t (begin_preparation row at preparation t))
  begun_preparation row at preparation t true = refl
  begun_preparation row at preparation t false = refl

  prepared_with : (o : Option StartTask) (row : JobRow) (at : NodeRow) (t : State) → HasSame job id t (prepare_with o row at t)
  prepared_with None row at t = refl
  prepared_with (Some preparation) row at t = begun_preparation row at preparation t (has_preparation t row.id at.number)

  -- a step that keeps the failures
  kept : (due : Due) (s t : State) → HasSame job id s t → DueFailures s due job id (failures_of s job id) (failures_of t job id)
  kept due s t e = subst (λ o. DueFailures s due job id (failures_of s job id) o) (sym e) (same_failures (failures_of s job id))

  -- a step that keeps them, or after which the task is gone
  kept_or_gone : (due : Due) (s t : State) → HasSameOrGone job id s t → DueFailures s due job id (failures_of s job id) (failures_of t job id)
  kept_or_gone due s t same_or_gone = elim same_or_gone [
    | inl e ↦ kept due s t e
    | inr e ↦ subst (λ o. DueFailures s due job id (failures_of s job id) o) (sym e) (task_gone (failures_of s job id))
  ]

  -- a job that is removed takes its tasks with it
  job_dropped : (s : State) (row : JobRow) → HasSameOrGone job id s (drop_job row.id s)
  job_dropped s row =
      tasks_dropped job id s (λ task. not (is_in_job row.id task)) (same row.id job)
      (λ e task k. rw (sym (alike_ids row.id job task.job e) ∙ and_first (same task.job job) (same task.id id) k) refl)
      (λ e task k.
      off (is_in_job row.id task) (λ m. sym (same_equiv.congr task.job row.id job m) ∙ and_first (same task.job job) (same task.id id) k) e)
    where
      off : (b : Bool) → (b ≡ true → same row.id job ≡ true) → same row.id job ≡ false → not b ≡ true
      off true f e = let n : same row.id job ≡ true = f refl in cc
      off false f e = refl

  module _ (seats : ℕ) (s : State) (h : IsSound seats s) where
    -- a task that is found and put in its place

    module _ (test : TaskRow → Bool) (task : TaskRow) (found : find test s.tasks ≡ Some task) where
      -- a change that keeps its name and its failures
      put_kept : (change : TaskRow → TaskRow) → ((one other : TaskRow) → same_task other (change one) ≡ same_task other one)
          → ((one : TaskRow) → is_task job id (change one) ≡ is_task job id one) → ((one : TaskRow) → (change one).failures ≡ one.failures)
          → HasSame job id s (change_tasks (is_task task.job task.id) (λ old. change task) s)
      put_kept = put_same job id s h.consistent.keys.tasks test task found

      -- a task that is tried again
      tried : (row : JobRow) → job_of s task.job ≡ Some row → is_below task.failures (retry_limit row task) ≡ true → (b : Bool) → is_task job id task ≡ b
          → DueFailures s (TaskSettled task.job task.id (Again (task.failures + 1))) job id (failures_of s job id)
          (failures_of (put_task (again (task.failures + 1) task) s) job id)
      tried row there left true e =
          let task_there : task_of s job id ≡ Some task =
          find_agree (is_task job id) (is_task task.job task.id) (keyed_like job id task e) s.tasks ∙ own_task job id s h.consistent.keys.tasks test task found
          in
          let job_there : job_of s job ≡ Some row =
          find_agree (is_job job) (is_job task.job) (λ other. alike_ids task.job job other.id (and_first (same task.job job) (same task.id id) e)) s.jobs
          ∙ there
          in
          subst (λ o. DueFailures s (TaskSettled task.job task.id (Again (task.failures + 1))) job id (failures_of s job id) o)
          (sym (put_own job id s h.consistent.keys.tasks test task found (again (task.failures + 1)) (λ one other. refl) (λ one. refl) e))
          (subst (λ o. DueFailures s (TaskSettled task.job task.id (Again (task.failures + 1))) job id o (Some (task.failures + 1)))
          (sym (ap (option_map (λ (one : TaskRow). one.failures)) task_there)) (tried_again row task refl job_there task_there left))
      tried row there left false e =
          kept (TaskSettled task.job task.id (Again (task.failures + 1))) s (put_task (again (task.failures + 1) task) s)
          (put_other job id s h.consistent.keys.tasks test task found (again (task.failures + 1)) (λ one other. refl) (λ one. refl) e)

    terminated_same : (task : TaskRow) → find (is_over s) s.tasks ≡ Some task → HasSame job id s (put_task (terminated s.moment task) s)
    terminated_same task found =
        put_kept (is_over s) task found (terminated s.moment) (λ one other. refl) (λ one. refl) (λ one. refl)

    completed_same : (closing : Closed) (task : TaskRow) → find (is_over s) s.tasks ≡ Some task → HasSame job id s (put_task (completed closing task) s)
    completed_same closing task found =
        put_kept (is_over s) task found (completed closing) (λ one other. refl) (λ one. refl) (λ one. refl)

    requeued_same : (task : TaskRow) → find (is_over s) s.tasks ≡ Some task → HasSame job id s (put_task (again task.failures task) s)
    requeued_same task found =
        put_kept (is_over s) task found (λ one. again one.failures one) (λ one other. refl) (λ one. refl) (λ one. refl)

    placed_same : (row : JobRow) (task : TaskRow) (node : NodeRow) (test : TaskRow → Bool) → find test s.tasks ≡ Some task
        → HasSame job id s (place s row task node).state
    placed_same row task node test found =
        prepared_with row.prep row node (put_task (placed task) s) ∙ put_kept test task found placed (λ one other. refl) (λ one. refl) (λ one. refl)

    -- all cases

    case_failures : (step : DueStep) → DueCase s step → DueFailures s step.due job id (failures_of s job id) (failures_of step.state job id)
    case_failures step (takes_samples pool) =
        samples_leave (λ t. DueFailures s step.due job id (failures_of s job id) (failures_of t job id)) s pool sampled_metrics s
        (λ samples. same_failures (failures_of s job id))
    case_failures step (task_stops task) = kept step.due s step.state (stop_keeps job id (is_task task.job task.id) WantWall s)
    case_failures step (release_stops run) = same_failures (failures_of s job id)
    case_failures step (job_stops row) = kept step.due s step.state (close_keeps job id Terminating wall_time_over row s)
    case_failures step (task_deleted task) = kept_or_gone step.due s step.state (task_dropped job id s task)
    case_failures step (task_terminated task found) = kept step.due s step.state (terminated_same task found)
    case_failures step (task_requeued task found) = kept step.due s step.state (requeued_same task found)
    case_failures step (task_tried row task found there left) = tried (is_over s) task found row there left (is_task job id task) refl
    case_failures step (task_completed row task cause succeeded options outcome found) =
        let closing : Closed = record { how = cause; success = succeeded; satisfies = options.satisfies; at = s.moment } in
        kept step.due s step.state (acted_if row.on_fail options.job row (put_task (completed closing task) s) ∙ completed_same closing task found)
    case_failures step (job_active row) = same_failures (failures_of s job id)
    case_failures step (job_done row) = kept step.due s step.state (close_keeps job id Terminating all_complete row s)
    case_failures step (job_rests row) = same_failures (failures_of s job id)
    case_failures step (releases prep node row release) = same_failures (failures_of s job id)
    case_failures step (job_goes row) = kept_or_gone step.due s step.state (job_dropped s row)
    case_failures step (job_stays row) = same_failures (failures_of s job id)
    case_failures step (pool_goes pool) = same_failures (failures_of s job id)
    case_failures step (pool_reaches pool) = same_failures (failures_of s job id)
    case_failures step (pool_fails pool) = same_failures (failures_of s job id)
    case_failures step (pool_stops pool) = same_failures (failures_of s job id)
    case_failures step (pool_scales pool scale) = same_failures (failures_of s job id)
    case_failures step (node_departs pool node) = kept step.due s step.state (leave_keeps job id pool.option (is_node node.number) s)
    case_failures step (node_goes node) = same_failures (failures_of s job id)
    case_failures step (node_comes seat pool) =
        kept step.due s step.state (begun_start pool.start (new_node s pool seat) (add_node_row (new_node s pool seat) s))
    case_failures step (places row task node test found) = kept step.due s step.state (placed_same row task node test found)

    -- the failures stay, the task is gone, or it is tried again with one failure more
    pub failures_by_due : (step : DueStep) → due_step seats s ≡ Some step
        → DueFailures s step.due job id (failures_of s job id) (failures_of step.state job id)
    failures_by_due step e = case_failures step (due_cases s seats step e)
