-- The failures of a task through changes of tables: they stay, change with the task that is put, or go with a task that is dropped.
use Rattle.std.proofs.Common.{◌≡◌, ℕ, Bool, true, false, not, List, Option, Some, None, cond, ◌⊎◌, inl, inr, refl, sym, ◌∙◌, ap, subst}
use Rattle.std.specs.List.{list_any, find, filter}
use Rattle.std.specs.Option.{option_map}
use Rattle.bt_base.specs.Ids.{same}
use Rattle.bt_base.proofs.SameIds.{same_equiv}
use Rattle.bt_rows.proofs.DistinctRows.{found_first}
use Rattle.bt_rows.specs.Keys.{same_task, same_task_equiv}
use Rattle.bt_rows.specs.Lists.{AreDistinct}
use Rattle.bt_rows.specs.declared.event.DisableTasks.{DisableTasks}
use Rattle.bt_rows.specs.declared.event.DisableTasks.TheVariants.{Requeue, Terminate, Wait}
use Rattle.batch_model.specs.Leaving.{is_on, has_run_where, clear_for, with_leaving, leave}
use Rattle.batch_model.specs.Rows.{is_task, task_of, put_job, change_tasks}
use Rattle.batch_model.specs.Settling.{drop_task}
use Rattle.batch_model.specs.Stops.{wanting, is_stopped, stop, disable, job_for, close}
use Rattle.batch_model.specs.Tasks.{is_in_job}
use Rattle.batch_model.specs.Variants.{State, NodeRow, Dealloc, ByRequeue, ByTerminate, TaskCompletion, RetainedData, JobRow, JobState, TaskRow}
use Rattle.batch_model.specs.Variants.{Want, WantRequeue, WantTerminate, RunRow}
use Rattle.model_lists.proofs.ChangedRows.{changed, same_changed, find_change}
use Rattle.model_lists.proofs.KeptRows.{kept_pass, find_still}
use Rattle.model_lists.proofs.KeyedLists.{put_is_change}
use Rattle.model_lists.proofs.RowLists.{each_weaker, find_test, find_agree, none_any}
use Rattle.model_lists.proofs.Tests.{and_first, and_second}
use Rattle.model_laws.specs.Retries.{failures_of}
use Rattle.model_laws.proofs.LastingRuns.{nothing_found}

-- ids that are the same agree on which others they are the same as
pub alike_ids : (a b other : List ℕ) → same a b ≡ true → same other b ≡ same other a
alike_ids a b other e = same_equiv.symm other b ∙ (sym (same_equiv.congr a b other e) ∙ same_equiv.symm a other)

module _ (job id : List ℕ) (task : TaskRow) where
  -- the tasks with a key that a task has are those with that one's own
  pub keyed_like : is_task job id task ≡ true → (other : TaskRow) → is_task job id other ≡ is_task task.job task.id other
  keyed_like e other =
      rw (
        alike_ids task.job job other.job (and_first (same task.job job) (same task.id id) e),
        alike_ids task.id id other.id (and_second (same task.job job) (same task.id id) e),
      ) refl

  -- a task with the key of another has a key just if that one has it
  pub keyed_both : (other : TaskRow) → is_task task.job task.id other ≡ true → is_task job id other ≡ is_task job id task
  keyed_both other e =
      rw (
        same_equiv.congr other.job task.job job (and_first (same other.job task.job) (same other.id task.id) e),
        same_equiv.congr other.id task.id id (and_second (same other.job task.job) (same other.id task.id) e),
      ) refl

module _ (job id : List ℕ) where
  -- the failures are as before
  abbrev pub HasSame : State → State → Type 0
  HasSame s t = failures_of t job id ≡ failures_of s job id

  -- tasks that change keep their keys and failures
  pub in_place : (test : TaskRow → Bool) (change : TaskRow → TaskRow) (s : State) → ((task : TaskRow) → is_task job id (change task) ≡ is_task job id task)
      → ((task : TaskRow) → (change task).failures ≡ task.failures) → HasSame s (change_tasks test change s)
  in_place test change s keyed keep =
      ap (option_map (λ (task : TaskRow). task.failures)) (find_change test change (is_task job id) (λ task t. keyed task) s.tasks) ∙ mapped (task_of s job id)
    where
      mapped : (o : Option TaskRow) → option_map (λ (task : TaskRow). task.failures) (option_map (changed test change) o)
          ≡ option_map (λ (task : TaskRow). task.failures) o
      mapped None = refl
      mapped (Some task) = ap Some (same_changed test change (λ (one : TaskRow). one.failures) task (λ e. keep task))

  -- stops

  pub stop_keeps : (test : TaskRow → Bool) (want : Want) (s : State) → HasSame s (stop test want s)
  stop_keeps test want s = in_place (is_stopped test) (wanting want) s (λ task. refl) (λ task. refl)

  pub close_keeps : (next : JobState) (why : List ℕ) (row : JobRow) (s : State) → HasSame s (close next why row s)
  close_keeps next why row s = stop_keeps (is_in_job row.id) WantTerminate (put_job (job_for next why row) s)

  pub disable_keeps : (option : DisableTasks) (row : JobRow) (s : State) → HasSame s (disable row option s)
  disable_keeps Requeue row s = stop_keeps (is_in_job row.id) WantRequeue (disable row Wait s)
  disable_keeps Terminate row s = stop_keeps (is_in_job row.id) WantTerminate (disable row Wait s)
  disable_keeps Wait row s = refl

  clear_keeps : (option : Dealloc) (test : RunRow → Bool) (s : State) → HasSame s (clear_for option test s)
  clear_keeps ByRequeue test s = stop_keeps (has_run_where test s) WantRequeue s
  clear_keeps ByTerminate test s = stop_keeps (has_run_where test s) WantTerminate s
  clear_keeps TaskCompletion test s = refl
  clear_keeps RetainedData test s = refl

  -- nodes leave
  pub leave_keeps : (option : Dealloc) (test : NodeRow → Bool) (s : State) → HasSame s (leave option test s)
  leave_keeps option test s = clear_keeps option (is_on test s) (with_leaving option test s)

  -- drops

  -- the failures are as before, or the task is gone
  abbrev pub HasSameOrGone : State → State → Type 0
  HasSameOrGone s t = HasSame s t ⊎ (failures_of t job id ≡ None)

  -- tasks are dropped: each with the key, or none of them
  pub tasks_dropped : (s : State) (keep : TaskRow → Bool) (b : Bool) → (b ≡ true → (task : TaskRow) → is_task job id task ≡ true → keep task ≡ false)
      → (b ≡ false → (task : TaskRow) → is_task job id task ≡ true → keep task ≡ true) → HasSameOrGone s (record s { tasks = filter keep s.tasks })
  tasks_dropped s keep true gone stays =
      let none : list_any (is_task job id) (filter keep s.tasks) ≡ false =
      none_any (is_task job id) (filter keep s.tasks)
      (each_weaker keep (λ task. not (is_task job id task)) (λ task e. apart (is_task job id task) (keep task) e (gone refl task)) (filter keep s.tasks)
      (kept_pass keep s.tasks))
      in
      inr (ap (option_map (λ (task : TaskRow). task.failures)) (nothing_found (is_task job id) (filter keep s.tasks) none))
    where
      apart : (a b : Bool) → b ≡ true → (a ≡ true → b ≡ false) → not a ≡ true
      apart true b e f = let n : b ≡ false = f refl in cc
      apart false b e f = refl
  tasks_dropped s keep false gone stays = inl (ap (option_map (λ (task : TaskRow). task.failures)) (find_still keep (is_task job id) (stays refl) s.tasks))

  -- a task is dropped with its runs
  pub task_dropped : (s : State) (task : TaskRow) → HasSameOrGone s (drop_task task s)
  task_dropped s task =
      tasks_dropped s (λ row. not (is_task task.job task.id row)) (is_task job id task)
      (λ e row k. rw (sym (keyed_like job id task e row) ∙ k) refl)
      (λ e row k. off (is_task task.job task.id row) (λ m. sym (keyed_both job id task row m) ∙ k) e)
    where
      off : (b : Bool) → (b ≡ true → is_task job id task ≡ true) → is_task job id task ≡ false → not b ≡ true
      off true f e = let n : is_task job id task ≡ true = f refl in cc
      off false f e = refl

  -- puts

  module _ (s : State) (keys : AreDistinct same_task s.tasks) (test : TaskRow → Bool) (task : TaskRow) (found : find test s.tasks ≡ Some task) where
    -- a task that is found is the one with its own key
    pub own_task : find (λ (other : TaskRow). same_task other task) s.tasks ≡ Some task
    own_task = found_first same_task same_task_equiv test task s.tasks keys found

    -- it is put in its place, changed, with the same key
    module _ (change : TaskRow → TaskRow) (keyed : (one other : TaskRow) → same_task other (change one) ≡ same_task other one)
        (named : (one : TaskRow) → is_task job id (change one) ≡ is_task job id one) where
      -- the tables after it
      abbrev pub with_put : State
      with_put = change_tasks (is_task task.job task.id) (λ old. change task) s

      -- that is the change of the tasks with its key
      put_changed : task_of with_put job id ≡ option_map (changed (is_task task.job task.id) change) (task_of s job id)
      put_changed =
          subst (λ (tasks : List TaskRow). find (is_task job id) tasks ≡ option_map (changed (is_task task.job task.id) change) (task_of s job id))
          (sym (put_is_change same_task same_task_equiv task s.tasks keys own_task change (λ other. keyed task other)))
          (find_change (is_task task.job task.id) change (is_task job id) (λ other t. named other) s.tasks)

      -- with the same failures
      pub put_same : ((one : TaskRow) → (change one).failures ≡ one.failures) → HasSame s with_put
      put_same keep = ap (option_map (λ (one : TaskRow). one.failures)) put_changed ∙ mapped (task_of s job id)
        where
          mapped : (o : Option TaskRow) → option_map (λ (one : TaskRow). one.failures) (option_map (changed (is_task task.job task.id) change) o)
              ≡ option_map (λ (one : TaskRow). one.failures) o
          mapped None = refl
          mapped (Some one) = ap Some (same_changed (is_task task.job task.id) change (λ (t : TaskRow). t.failures) one (λ e. keep one))

      -- another task has the same failures
      pub put_other : is_task job id task ≡ false → HasSame s with_put
      put_other apart = ap (option_map (λ (one : TaskRow). one.failures)) put_changed ∙ mapped (task_of s job id) refl
        where
          off : (one : TaskRow) → is_task job id one ≡ true → (b : Bool) → is_task task.job task.id one ≡ b → (cond b (change one) one).failures ≡ one.failures
          off one k true e = let n : is_task job id one ≡ is_task job id task = keyed_both job id task one e in cc
          off one k false e = refl

          mapped : (o : Option TaskRow) → task_of s job id ≡ o
              → option_map (λ (one : TaskRow). one.failures) (option_map (changed (is_task task.job task.id) change) o)
              ≡ option_map (λ (one : TaskRow). one.failures) o
          mapped None e = refl
          mapped (Some one) e = ap Some (off one (find_test (is_task job id) one s.tasks e) (is_task task.job task.id one) refl)

      -- the task itself has those that the change gives it
      pub put_own : is_task job id task ≡ true → failures_of with_put job id ≡ Some (change task).failures
      put_own e =
          ap (option_map (λ (one : TaskRow). one.failures))
          (put_changed
          ∙ ap (option_map (changed (is_task task.job task.id) change))
          (find_agree (is_task job id) (is_task task.job task.id) (keyed_like job id task e) s.tasks ∙ own_task))
          ∙ ap (λ b. Some (cond b (change task) task).failures) (same_task_equiv.refl task)
