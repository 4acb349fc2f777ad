-- The events `delete-task`, `terminate-task` and `reactivate-task` keep sound tables.
use Rattle.std.proofs.Common.{◌≡◌, ℕ, Bool, true, false, not, ◌&&◌, ◌||◌, List, find, Some, None, is_none, cond, refl, arith}
use Rattle.bt_rows.specs.declared.refusal.Refusal.TheVariants.{TaskNotFound, TaskNotReactivable}
use Rattle.batch_model.specs.Rows.{is_task, task_of, put_task}
use Rattle.batch_model.specs.Tasks.{is_placed, is_completed, is_undisturbed, terminated}
use Rattle.batch_model.specs.Stops.{stop}
use Rattle.batch_model.specs.Settling.{drop_task}
use Rattle.batch_model.specs.Events.{for_row, task_deleted, delete_found, delete_task_refusals, delete_task, task_terminated, terminate_task_refusals, terminate_found}
use Rattle.batch_model.specs.Events.{terminate_task, can_reactivate, reactivated, reactivate_refusals, reactivate_found, reactivate_task_refusals, reactivate_task}
use Rattle.batch_model.specs.Sound.{IsSound}
use Rattle.batch_model.specs.WellFormed.{is_past_if_some, is_task_in_range, is_task_valid, has_fitting_marks}
use Rattle.batch_model.specs.Variants.{State, JobRow, TaskRow, TaskStage, Active, Placed, Completed, Closed, ByTermination, WantTerminate, WantDelete}
use Rattle.model_lists.proofs.Tests.{and_true, and_first, and_second, not_false}
use Rattle.model_lists.proofs.RowLists.{each_found}
use Rattle.model_lists.proofs.NextNumbers.{is_not_after_itself, tested}
use Rattle.model_tables.proofs.OneStopped.{sound_one_stopped}
use Rattle.model_tables.proofs.TasksKept.{Marks}
use Rattle.model_tables.proofs.TaskMoved.{is_unmarked, consistent_unplaced, sound_task_put}
use Rattle.model_tables.proofs.TaskDropped.{sound_task_dropped}
use Rattle.model_events.proofs.Keeping.{passed, given_keeps, answer_keeps, for_row_keeps}

-- a completed task isn't placed
completed_unplaced : (stage : TaskStage) → is_completed stage ≡ true → is_placed stage ≡ false
completed_unplaced Active h = cc
completed_unplaced Placed h = cc
completed_unplaced Completed h = refl

-- one of two passes, and the first doesn't
second_passes : (a b : Bool) → a ≡ false → (a || b) ≡ true → b ≡ true
second_passes true b e h = cc
second_passes false b e h = h

module _ (seats : ℕ) (s : State) (h : IsSound seats s) (test : TaskRow → Bool) (task : TaskRow) (found : find test s.tasks ≡ Some task) where
  -- the task is valid
  valid : is_task_valid s.moment task ≡ true
  valid = each_found (is_task_valid s.moment) test task s.tasks found h.limited.rows.tasks

  -- deleted
  deleted_by : (b : Bool) → IsSound seats (cond b (stop (is_task task.job task.id) WantDelete s) (drop_task task s))
  deleted_by true = sound_one_stopped seats s task.job task.id WantDelete h
  deleted_by false = sound_task_dropped task s seats h

  deleted_sound : IsSound seats (task_deleted s task)
  deleted_sound = deleted_by (is_placed task.stage)

  -- terminated

  -- the closing of a terminated task
  abbrev terminated_closing : Closed
  terminated_closing = record { how = ByTermination; success = false; satisfies = false; at = s.moment }

  -- the marks of a task that is terminated
  abbrev terminated_marks : Marks
  terminated_marks =
      record { stage = Completed; failures = task.failures; wanted = None; fail = None; started = None; closed = Some terminated_closing }

  unplaced_terminated : is_placed task.stage ≡ false → IsSound seats (put_task (terminated s.moment task) s)
  unplaced_terminated unplaced =
      sound_task_put s (terminated s.moment task) seats h
      (consistent_unplaced terminated_marks refl refl refl seats s task test h.consistent found unplaced)
      (and_true (and_true (and_first _ _ (and_first _ _ valid)) (is_not_after_itself s.moment)) (and_true (and_first _ _ (and_second _ _ valid)) refl))
      refl

  terminated_by : (b : Bool) → is_placed task.stage ≡ b
      → IsSound seats (cond b (stop (is_task task.job task.id) WantTerminate s) (put_task (terminated s.moment task) s))
  terminated_by true e = sound_one_stopped seats s task.job task.id WantTerminate h
  terminated_by false e = unplaced_terminated e

  terminated_sound : IsSound seats (task_terminated s task)
  terminated_sound = terminated_by (is_placed task.stage) refl

  -- reactivated

  -- the marks of a task that is reactivated
  abbrev reactivated_marks : Marks
  reactivated_marks = record { stage = Active; failures = 0; wanted = task.wanted; fail = task.fail; started = task.started; closed = None }

  reactivated_sound : can_reactivate task ≡ true → IsSound seats (put_task (reactivated task) s)
  reactivated_sound can =
      sound_task_put s (reactivated task) seats h
      (consistent_unplaced reactivated_marks refl unmarked refl seats s task test h.consistent found unplaced)
      (and_true {a = is_task_in_range task && (is_past_if_some s.moment task.started && true)}
      (and_true (and_first _ _ (and_first _ _ valid)) (and_true (and_first _ _ (and_second _ _ (and_first _ _ valid))) refl))
      (and_true (tested 0 task.attempt (omega arith)) refl))
      refl
    where
      unplaced : is_placed task.stage ≡ false
      unplaced = completed_unplaced task.stage (and_first (is_completed task.stage) _ can)

      unmarked : is_unmarked reactivated_marks ≡ true
      unmarked =
          second_passes (is_placed task.stage) (is_undisturbed task && is_none task.started) unplaced
          (each_found has_fitting_marks test task s.tasks found h.consistent.fitting.marks)

module _ (seats : ℕ) (s : State) (id : List ℕ) (job : JobRow) (h : IsSound seats s) where
  -- `delete-task`
  pub delete_task_kept : IsSound seats (delete_task s id job).state
  delete_task_kept =
      given_keeps (IsSound seats) s h (for_row s TaskNotFound (delete_found s) (task_of s job.id id)) (delete_task_refusals job)
      (λ absent. for_row_keeps (IsSound seats) s h TaskNotFound (delete_found s) (task_of s job.id id)
      (λ task found. deleted_sound seats s h (is_task job.id id) task found))

  -- `terminate-task`
  pub terminate_task_kept : IsSound seats (terminate_task s id job).state
  terminate_task_kept =
      for_row_keeps (IsSound seats) s h TaskNotFound (terminate_found s) (task_of s job.id id)
      (λ task found. answer_keeps (IsSound seats) s h (terminate_task_refusals task) 204 (task_terminated s task)
      (λ absent. terminated_sound seats s h (is_task job.id id) task found))

  -- `reactivate-task`
  pub reactivate_task_kept : IsSound seats (reactivate_task s id job).state
  reactivate_task_kept =
      given_keeps (IsSound seats) s h (for_row s TaskNotFound (reactivate_found s) (task_of s job.id id)) (reactivate_task_refusals job)
      (λ none. for_row_keeps (IsSound seats) s h TaskNotFound (reactivate_found s) (task_of s job.id id)
      (λ task found. answer_keeps (IsSound seats) s h (reactivate_refusals task) 204 (put_task (reactivated task) s)
      (λ absent. reactivated_sound seats s h (is_task job.id id) task found
      (not_false (can_reactivate task) (passed (not (can_reactivate task)) TaskNotReactivable absent.0)))))
