-- A due step places a task only by the line of its placing, and completes a job only by the line of its end.
use Rattle.std.proofs.Common.{◌≡◌, ℕ, ◌+◌, Bool, true, false, List, [], Option, Some, None, cond, refl, sym, ◌∙◌, ap, subst}
use Rattle.std.specs.List.{find}
use Rattle.std.specs.Option.{option_map, option_map_or, option_and_then}
use Rattle.bt_base.proofs.SameIds.{same_equiv}
use Rattle.bt_rows.specs.Keys.{same_task}
use Rattle.bt_rows.specs.Lists.{AreDistinct}
use Rattle.bt_rows.specs.declared.due.Due.{Due}
use Rattle.bt_rows.specs.declared.due.Due.TheVariants.{JobEnded}
use Rattle.bt_rows.specs.declared.due.JobEnd.TheVariants.{Kept}
use Rattle.bt_rows.specs.declared.event.DisableTasks.TheVariants.{Requeue}
use Rattle.batch_model.specs.Dues.{new_node, begin_start, due_step}
use Rattle.batch_model.specs.JobRules.{all_complete, job_completed}
use Rattle.batch_model.specs.Jobs.{can_disable, is_past, job_in}
use Rattle.batch_model.specs.Metrics.{sampled_metrics}
use Rattle.batch_model.specs.Placing.{placed, begin_preparation, prepare_with, prepare, place}
use Rattle.batch_model.specs.Preps.{has_preparation}
use Rattle.batch_model.specs.Rows.{is_node, is_task, is_job, job_of, task_of, put_task, add_node_row}
use Rattle.batch_model.specs.Settling.{task_failed, act}
use Rattle.batch_model.specs.Sound.{IsSound}
use Rattle.batch_model.specs.Steps.{DueStep}
use Rattle.batch_model.specs.Stops.{disable, terminate}
use Rattle.batch_model.specs.Tasks.{completed, terminated, again}
use Rattle.batch_model.specs.Variants.{State, NodeRow, JobRow, JobActive, Disabled, Terminating, JobCompleted, JobAction, NoAction, ToDisable, ToTerminate}
use Rattle.batch_model.specs.Variants.{StartTask, TaskRow, Closed, WantWall}
use Rattle.batch_model.specs.WallTimes.{wall_time_over}
use Rattle.model_lists.proofs.ChangedRows.{changed, find_change}
use Rattle.model_lists.proofs.RowLists.{find_agree, find_test}
use Rattle.model_tables.proofs.ScalingParts.{samples_leave}
use Rattle.model_laws.specs.Placings.{attempt_if_placed, placed_attempt, has_completed, is_completed_job, DuePlaced, was_placed, placed_now}
use Rattle.model_laws.specs.Placings.{DueCompleted, was_completed, completed_now, DuePlacings}
use Rattle.model_laws.proofs.DueCases.{DueCase, task_stops, release_stops, job_stops, task_deleted, task_terminated, task_requeued, task_tried, task_completed}
use Rattle.model_laws.proofs.DueCases.{job_active, job_done, job_rests, releases, job_goes, job_stays, pool_goes, pool_reaches, pool_fails, pool_stops}
use Rattle.model_laws.proofs.DueCases.{takes_samples, pool_scales, node_departs, node_goes, node_comes, places, due_cases}
use Rattle.model_laws.proofs.KeptFailures.{keyed_like, keyed_both, own_task}
use Rattle.model_laws.proofs.KeptPlacings.{Keeps, stays, both, stop_keeps, leave_keeps, task_put, task_dropped, job_put, job_dropped, close_keeps}
use Rattle.model_laws.proofs.KeptPlacings.{disable_keeps}

module _ (job id : List ℕ) where
  -- what a completed task does to its job

  disabled_if : (row : JobRow) (t : State) (b : Bool) → Keeps job id t (cond b (disable row Requeue t) t)
  disabled_if row t true = disable_keeps job id Requeue row t
  disabled_if row t false = stays job id t

  terminated_unless : (row : JobRow) (t : State) (b : Bool) → Keeps job id t (cond b t (terminate task_failed row t))
  terminated_unless row t true = stays job id t
  terminated_unless row t false = close_keeps job id Terminating task_failed row t refl

  acted : (action : JobAction) (row : JobRow) (t : State) → Keeps job id t (act action row t)
  acted NoAction row t = stays job id t
  acted ToDisable row t = disabled_if row t (can_disable row.state)
  acted ToTerminate row t = terminated_unless row t (is_past row.state)

  acted_if : (b : Bool) (action : JobAction) (row : JobRow) (t : State) → Keeps job id t (cond b (act action row t) t)
  acted_if true action row t = acted action row t
  acted_if false action row t = stays job id t

  -- nodes and preparations

  begun_start : (o : Option StartTask) (row : NodeRow) (t : State) → Keeps job id t (begin_start o row t)
  begun_start None row t = stays job id t
  begun_start (Some start) row t = stays job id t

  begun_preparation : (row : JobRow) (at : NodeRow) (preparation : StartTask) (t : State) (b : Bool)
      → Keeps job id t (cond b t (begin_preparation row at preparation t))
  begun_preparation row at preparation t true = stays job id t
  begun_preparation row at preparation t false = stays job id t

  prepared_with : (o : Option StartTask) (row : JobRow) (at : NodeRow) (t : State) → Keeps job id t (prepare_with o row at t)
  prepared_with None row at t = stays job id t
  prepared_with (Some preparation) row at t = begun_preparation row at preparation t (has_preparation t row.id at.number)

  module _ (s : State) where
    -- what a due step may do
    abbrev Does : Due → State → Type 0
    Does due t =
        ((attempt : ℕ) → placed_attempt t job id ≡ Some attempt → DuePlaced s due job id attempt)
        × (is_completed_job t job ≡ true → DueCompleted s due job)

    -- it places no task and completes no job
    neither : (due : Due) (t : State) → Keeps job id s t → Does due t
    neither due t keeps = (λ attempt h. was_placed attempt (keeps.0 attempt h), λ h. was_completed (keeps.1 h))

    -- a job is completed
    job_ended : (row : JobRow) → Does (job_completed s row).due (job_completed s row).state
    job_ended row = (
      λ attempt h. was_placed attempt h,
      λ h. by_found (job_of s job) refl
          (sym
          (ap (λ (o : Option JobRow). option_map_or has_completed o false)
          (find_change (is_job row.id) (λ old. job_in JobCompleted row) (is_job job) keyed s.jobs))
          ∙ h),
    )
      where
        keyed : (other : JobRow) → is_job row.id other ≡ true → is_job job row ≡ is_job job other
        keyed other e = sym (same_equiv.congr other.id row.id job e)

        by_test : (other : JobRow) → job_of s job ≡ Some other → (b : Bool) → is_job row.id other ≡ b
            → has_completed (cond b (job_in JobCompleted row) other) ≡ true → DueCompleted s (JobEnded row.id Kept) job
        by_test other there true e h =
            completed_now row.id refl (sym (same_equiv.congr other.id row.id job e) ∙ find_test (is_job job) other s.jobs there)
        by_test other there false e h =
            was_completed (ap (λ (o : Option JobRow). option_map_or has_completed o false) there ∙ h)

        by_found : (o : Option JobRow) → job_of s job ≡ o
            → option_map_or has_completed (option_map (changed (is_job row.id) (λ old. job_in JobCompleted row)) o) false ≡ true
            → DueCompleted s (JobEnded row.id Kept) job
        by_found None there h = was_completed (ap (λ (o : Option JobRow). option_map_or has_completed o false) there ∙ h)
        by_found (Some other) there h = by_test other there (is_job row.id other) refl h

    -- a task that is found is placed
    module _ (keys : AreDistinct same_task s.tasks) (test : TaskRow → Bool) (task : TaskRow) (found : find test s.tasks ≡ Some task) where
      task_placed : (row : JobRow) (node : NodeRow) → Does (place s row task node).due (place s row task node).state
      task_placed row node = (
        λ attempt h. by_found attempt (task_of s job id) refl
            (sym
            (ap (option_and_then attempt_if_placed)
            (find_change (is_task task.job task.id) (λ old. placed task) (is_task job id) (λ other t. sym (keyed_both job id task other t)) s.tasks))
            ∙ (prepared_with row.prep row node (put_task (placed task) s)).0 attempt h),
        λ h. was_completed ((prepared_with row.prep row node (put_task (placed task) s)).1 h),
      )
        where
          by_test : (attempt : ℕ) (other : TaskRow) → task_of s job id ≡ Some other → (b : Bool) → is_task task.job task.id other ≡ b
              → attempt_if_placed (cond b (placed task) other) ≡ Some attempt → DuePlaced s (place s row task node).due job id attempt
          by_test attempt other there true e h =
              let own : is_task job id task ≡ true = sym (keyed_both job id task other e) ∙ find_test (is_task job id) other s.tasks there in
              let task_there : task_of s job id ≡ Some task =
              find_agree (is_task job id) (is_task task.job task.id) (keyed_like job id task own) s.tasks ∙ own_task job id s keys test task found
              in
              let is : ◌≡◌ {A = Option ℕ} (Some (task.attempt + 1)) (Some attempt) = h in
              let same_attempt : task.attempt + 1 ≡ attempt = cc in
              subst (λ (n : ℕ). DuePlaced s (place s row task node).due job id n) same_attempt
              (placed_now task node.number (prepare row node s).next_run refl task_there)
          by_test attempt other there false e h = was_placed attempt (ap (option_and_then attempt_if_placed) there ∙ h)

          by_found : (attempt : ℕ) (o : Option TaskRow) → task_of s job id ≡ o
              → option_and_then attempt_if_placed (option_map (changed (is_task task.job task.id) (λ old. placed task)) o) ≡ Some attempt
              → DuePlaced s (place s row task node).due job id attempt
          by_found attempt None there h = was_placed attempt (ap (option_and_then attempt_if_placed) there ∙ h)
          by_found attempt (Some other) there h = by_test attempt other there (is_task task.job task.id other) refl h

    -- all cases
    case_does : AreDistinct same_task s.tasks → (step : DueStep) → DueCase s step → Does step.due step.state
    case_does keys step (takes_samples pool) =
        neither step.due step.state (samples_leave (Keeps job id s) s pool sampled_metrics s (λ samples. stays job id s))
    case_does keys step (task_stops task) = neither step.due step.state (stop_keeps job id (is_task task.job task.id) WantWall s)
    case_does keys step (release_stops run) = neither step.due step.state (stays job id s)
    case_does keys step (job_stops row) = neither step.due step.state (close_keeps job id Terminating wall_time_over row s refl)
    case_does keys step (task_deleted task) = neither step.due step.state (task_dropped job id task s)
    case_does keys step (task_terminated task found) = neither step.due step.state (task_put job id (terminated s.moment task) s refl)
    case_does keys step (task_requeued task found) = neither step.due step.state (task_put job id (again task.failures task) s refl)
    case_does keys step (task_tried row task found there left) =
        neither step.due step.state (task_put job id (again (task.failures + 1) task) s refl)
    case_does keys step (task_completed row task cause succeeded options outcome found) =
        let closing : Closed = record { how = cause; success = succeeded; satisfies = options.satisfies; at = s.moment } in
        let put : State = put_task (completed closing task) s in
        neither step.due step.state
        (both job id s put step.state (task_put job id (completed closing task) s refl) (acted_if row.on_fail options.job row put))
    case_does keys step (job_active row) = neither step.due step.state (job_put job id (job_in JobActive row) s refl)
    case_does keys step (job_done row) = neither step.due step.state (close_keeps job id Terminating all_complete row s refl)
    case_does keys step (job_rests row) = neither step.due step.state (job_put job id (job_in Disabled row) s refl)
    case_does keys step (releases prep node row release) = neither step.due step.state (stays job id s)
    case_does keys step (job_goes row) = neither step.due step.state (job_dropped job id row.id s)
    case_does keys step (job_stays row) = job_ended row
    case_does keys step (pool_goes pool) = neither step.due step.state (stays job id s)
    case_does keys step (pool_reaches pool) = neither step.due step.state (stays job id s)
    case_does keys step (pool_fails pool) = neither step.due step.state (stays job id s)
    case_does keys step (pool_stops pool) = neither step.due step.state (stays job id s)
    case_does keys step (pool_scales pool scale) = neither step.due step.state (stays job id s)
    case_does keys step (node_departs pool node) = neither step.due step.state (leave_keeps job id pool.option (is_node node.number) s)
    case_does keys step (node_goes node) = neither step.due step.state (stays job id s)
    case_does keys step (node_comes seat pool) =
        neither step.due step.state (begun_start pool.start (new_node s pool seat) (add_node_row (new_node s pool seat) s))
    case_does keys step (places row task node test found) = task_placed keys test task found row node

-- a task is placed, or a job completed, only if the step's line says so
pub due_placings : (seats : ℕ) (s : State) (step : DueStep) → IsSound seats s → due_step seats s ≡ Some step → DuePlacings s step
due_placings seats s step h e = record {
  placed = λ job id. (case_does job id s h.consistent.keys.tasks step (due_cases s seats step e)).0;
  completed = λ job. (case_does job [] s h.consistent.keys.tasks step (due_cases s seats step e)).1;
}
