-- What changes of tables leave of placed tasks and completed jobs: a task that is placed afterwards was placed before, in the same
-- attempt, and a job that is completed afterwards was completed before.
use Rattle.std.proofs.Common.{◌≡◌, ℕ, Bool, true, false, not, List, [], ◌∷◌, ◌++◌, Option, Some, None, cond, ◌⊎◌, inl, inr, refl, sym, ◌∙◌, ap, subst}
use Rattle.std.specs.List.{find, filter}
use Rattle.std.specs.Option.{option_map, option_map_or, option_and_then}
use Rattle.bt_base.specs.Ids.{same}
use Rattle.bt_base.proofs.SameIds.{same_equiv}
use Rattle.bt_rows.specs.declared.event.DisableTasks.{DisableTasks}
use Rattle.bt_rows.specs.declared.event.DisableTasks.TheVariants.{Requeue, Terminate, Wait}
use Rattle.batch_model.specs.JobRules.{drop_job}
use Rattle.batch_model.specs.Jobs.{is_job_completed, job_in}
use Rattle.batch_model.specs.Leaving.{is_on, has_run_where, clear_for, with_leaving, leave}
use Rattle.batch_model.specs.Rows.{is_task, is_job, job_of, task_of, put_job, put_task, change_tasks, add_job_row, add_task_row}
use Rattle.batch_model.specs.Settling.{drop_task}
use Rattle.batch_model.specs.Stops.{wanting, is_stopped, stop, disable, job_for, close}
use Rattle.batch_model.specs.Tasks.{is_in_job}
use Rattle.batch_model.specs.Variants.{State, NodeRow, Dealloc, ByRequeue, ByTerminate, TaskCompletion, RetainedData, JobRow, JobState, Disabling, TaskRow}
use Rattle.batch_model.specs.Variants.{Want, WantRequeue, WantTerminate, RunRow}
use Rattle.model_lists.proofs.ChangedRows.{changed, find_change}
use Rattle.model_lists.proofs.KeptRows.{kept_pass, find_still}
use Rattle.model_lists.proofs.RowLists.{each_found, find_test}
use Rattle.model_lists.proofs.Tests.{and_first, and_second}
use Rattle.model_laws.specs.Placings.{attempt_if_placed, placed_attempt, has_completed, is_completed_job}
use Rattle.model_laws.proofs.KeptFailures.{keyed_both}
use Rattle.model_laws.proofs.MadeRuns.{found_added}

-- no attempt is none
no_attempt : {Q : Type 0} (attempt : ℕ) → ◌≡◌ {A = Option ℕ} None (Some attempt) → Q
no_attempt attempt h = cc

no_truth : {Q : Type 0} → false ≡ true → Q
no_truth h = cc

-- ids that are the same as one id agree on which others they are the same as
like_ids : (a b of other : List ℕ) → same a of ≡ true → same b of ≡ true → same a other ≡ same b other
like_ids a b of other h k = same_equiv.congr a of other h ∙ sym (same_equiv.congr b of other k)

-- rows are dropped of which those that pass a test stay or go together
module _ {R : Type 0} (test keep : R → Bool) (like : (row other : R) → test row ≡ true → test other ≡ true → keep row ≡ keep other) where
  -- the first that passes among those that are kept is the first among all
  still_first : (rows : List R) (row : R) → find test (filter keep rows) ≡ Some row → find test rows ≡ Some row
  still_first rows row found =
      let own : test row ≡ true = find_test test row (filter keep rows) found in
      let kept : keep row ≡ true = each_found keep test row (filter keep rows) found (kept_pass keep rows) in
      sym (find_still keep test (λ other passes. like other row passes own ∙ kept) rows) ∙ found

  -- what holds of the one, and of none only if of the other too, holds of the other
  found_before : (P : Option R → Type 0) (rows : List R) → (P None → P (find test rows)) → P (find test (filter keep rows)) → P (find test rows)
  found_before P rows none h = by_found (find test (filter keep rows)) refl h
    where
      by_found : (o : Option R) → find test (filter keep rows) ≡ o → P o → P (find test rows)
      by_found None e k = none k
      by_found (Some row) e k = subst P (sym (still_first rows row e)) k

module _ (job id : List ℕ) where
  -- a task that is placed afterwards was placed before, in the same attempt
  abbrev pub KeepsPlaced : State → State → Type 0
  KeepsPlaced s t = (attempt : ℕ) → placed_attempt t job id ≡ Some attempt → placed_attempt s job id ≡ Some attempt

  -- a job that is completed afterwards was completed before
  abbrev pub KeepsCompleted : State → State → Type 0
  KeepsCompleted s t = is_completed_job t job ≡ true → is_completed_job s job ≡ true

  abbrev pub Keeps : State → State → Type 0
  Keeps s t = KeepsPlaced s t × KeepsCompleted s t

  -- the tables stay, as far as tasks and jobs
  pub stays : (s : State) → Keeps s s
  stays s = (λ attempt h. h, λ h. h)

  -- one change after another
  pub both : (s t u : State) → Keeps s t → Keeps t u → Keeps s u
  both s t u h k = (λ attempt e. h.0 attempt (k.0 attempt e), λ e. h.1 (k.1 e))

  -- tasks

  -- tasks change, with their keys, and are placed only if they were
  pub in_place : (test : TaskRow → Bool) (change : TaskRow → TaskRow) (s : State)
      → ((task : TaskRow) → test task ≡ true → is_task job id (change task) ≡ is_task job id task)
      → ((task : TaskRow) (attempt : ℕ) → attempt_if_placed (change task) ≡ Some attempt → attempt_if_placed task ≡ Some attempt)
      → Keeps s (change_tasks test change s)
  in_place test change s keyed keep = (
    λ attempt h. by_found attempt (task_of s job id)
        (sym (ap (option_and_then attempt_if_placed) (find_change test change (is_task job id) keyed s.tasks)) ∙ h),
    λ h. h,
  )
    where
      by_test : (attempt : ℕ) (task : TaskRow) (b : Bool) → attempt_if_placed (cond b (change task) task) ≡ Some attempt
          → attempt_if_placed task ≡ Some attempt
      by_test attempt task true h = keep task attempt h
      by_test attempt task false h = h

      by_found : (attempt : ℕ) (o : Option TaskRow) → option_and_then attempt_if_placed (option_map (changed test change) o) ≡ Some attempt
          → option_and_then attempt_if_placed o ≡ Some attempt
      by_found attempt None h = h
      by_found attempt (Some task) h = by_test attempt task (test task) h

  -- tasks are stopped
  pub stop_keeps : (test : TaskRow → Bool) (want : Want) (s : State) → Keeps s (stop test want s)
  stop_keeps test want s = in_place (is_stopped test) (wanting want) s (λ task t. refl) (λ task attempt h. h)

  clear_keeps : (option : Dealloc) (test : RunRow → Bool) (s : State) → Keeps s (clear_for option test s)
  clear_keeps ByRequeue test s = stop_keeps (has_run_where test s) WantRequeue s
  clear_keeps ByTerminate test s = stop_keeps (has_run_where test s) WantTerminate s
  clear_keeps TaskCompletion test s = stays s
  clear_keeps RetainedData test s = stays s

  -- nodes leave
  pub leave_keeps : (option : Dealloc) (test : NodeRow → Bool) (s : State) → Keeps s (leave option test s)
  leave_keeps option test s = clear_keeps option (is_on test s) (with_leaving option test s)

  -- a task that is not placed is put in the place of the one with its key
  pub task_put : (row : TaskRow) (s : State) → attempt_if_placed row ≡ None → Keeps s (put_task row s)
  task_put row s none =
      in_place (is_task row.job row.id) (λ old. row) s (λ task t. sym (keyed_both job id row task t))
      (λ task attempt h. no_attempt attempt (sym none ∙ h))

  -- such a task is added
  pub task_added : (row : TaskRow) (s : State) → attempt_if_placed row ≡ None → Keeps s (add_task_row row s)
  task_added row s none = (λ attempt h. by_found attempt (found_added (is_task job id) s.tasks row) h, λ h. h)
    where
      by_found : (attempt : ℕ)
          → (find (is_task job id) (s.tasks ++ row ∷ []) ≡ find (is_task job id) s.tasks)
          ⊎ ((find (is_task job id) (s.tasks ++ row ∷ []) ≡ Some row) × (is_task job id row ≡ true))
          → option_and_then attempt_if_placed (find (is_task job id) (s.tasks ++ row ∷ [])) ≡ Some attempt
          → placed_attempt s job id ≡ Some attempt
      by_found attempt (inl e) h = sym (ap (option_and_then attempt_if_placed) e) ∙ h
      by_found attempt (inr new) h =
          no_attempt attempt (sym (ap (option_and_then attempt_if_placed) new.0 ∙ none) ∙ h)

  -- tasks are dropped, those with one key together
  tasks_kept : (keep : TaskRow → Bool) → ((row other : TaskRow) → is_task job id row ≡ true → is_task job id other ≡ true → keep row ≡ keep other)
      → (s : State) (attempt : ℕ) → option_and_then attempt_if_placed (find (is_task job id) (filter keep s.tasks)) ≡ Some attempt
      → placed_attempt s job id ≡ Some attempt
  tasks_kept keep like s attempt h =
      found_before (is_task job id) keep like (λ (o : Option TaskRow). option_and_then attempt_if_placed o ≡ Some attempt) s.tasks
      (λ e. no_attempt attempt e) h

  pub task_dropped : (task : TaskRow) (s : State) → Keeps s (drop_task task s)
  task_dropped task s = (tasks_kept (λ row. not (is_task task.job task.id row)) like s, λ h. h)
    where
      like : (row other : TaskRow) → is_task job id row ≡ true → is_task job id other ≡ true
          → not (is_task task.job task.id row) ≡ not (is_task task.job task.id other)
      like row other h k =
          rw (
            like_ids row.job other.job job task.job (and_first (same row.job job) (same row.id id) h) (and_first (same other.job job) (same other.id id) k),
            like_ids row.id other.id id task.id (and_second (same row.job job) (same row.id id) h) (and_second (same other.job job) (same other.id id) k),
          ) refl

  -- jobs

  -- a job that is not completed is put in the place of the one with its key
  pub job_put : (row : JobRow) (s : State) → has_completed row ≡ false → Keeps s (put_job row s)
  job_put row s not_over = (
    λ attempt h. h,
    λ h. by_found (job_of s job)
        (sym
        (ap (λ (o : Option JobRow). option_map_or has_completed o false) (find_change (is_job row.id) (λ old. row) (is_job job) keyed s.jobs))
        ∙ h),
  )
    where
      keyed : (other : JobRow) → is_job row.id other ≡ true → is_job job row ≡ is_job job other
      keyed other e = sym (same_equiv.congr other.id row.id job e)

      by_test : (other : JobRow) (b : Bool) → has_completed (cond b row other) ≡ true → has_completed other ≡ true
      by_test other true h = no_truth (sym not_over ∙ h)
      by_test other false h = h

      by_found : (o : Option JobRow) → option_map_or has_completed (option_map (changed (is_job row.id) (λ old. row)) o) false ≡ true
          → option_map_or has_completed o false ≡ true
      by_found None h = h
      by_found (Some other) h = by_test other (is_job row.id other) h

  -- such a job is added
  pub job_added : (row : JobRow) (s : State) → has_completed row ≡ false → Keeps s (add_job_row row s)
  job_added row s not_over = (λ attempt h. h, λ h. by_found (found_added (is_job job) s.jobs row) h)
    where
      by_found : (find (is_job job) (s.jobs ++ row ∷ []) ≡ find (is_job job) s.jobs)
          ⊎ ((find (is_job job) (s.jobs ++ row ∷ []) ≡ Some row) × (is_job job row ≡ true))
          → option_map_or has_completed (find (is_job job) (s.jobs ++ row ∷ [])) false ≡ true → is_completed_job s job ≡ true
      by_found (inl e) h = sym (ap (λ (o : Option JobRow). option_map_or has_completed o false) e) ∙ h
      by_found (inr new) h =
          no_truth (sym (ap (λ (o : Option JobRow). option_map_or has_completed o false) new.0 ∙ not_over) ∙ h)

  -- a job goes, with its tasks
  pub job_dropped : (row_id : List ℕ) (s : State) → Keeps s (drop_job row_id s)
  job_dropped row_id s = (
    tasks_kept (λ task. not (is_in_job row_id task))
        (λ task other h k. ap not
        (like_ids task.job other.job job row_id (and_first (same task.job job) (same task.id id) h) (and_first (same other.job job) (same other.id id) k)))
        s,
    λ h. found_before (is_job job) (λ row. not (is_job row_id row)) (λ row other e k. ap not (like_ids row.id other.id job row_id e k))
        (λ (o : Option JobRow). option_map_or has_completed o false ≡ true) s.jobs (λ e. no_truth e) h,
  )

  -- a job is closed, with its tasks
  pub close_keeps : (next : JobState) (why : List ℕ) (row : JobRow) (s : State) → is_job_completed next ≡ false → Keeps s (close next why row s)
  close_keeps next why row s not_over =
      ((stop_keeps (is_in_job row.id) WantTerminate (put_job (job_for next why row) s)).0, (job_put (job_for next why row) s not_over).1)

  -- a job is disabled
  pub disable_keeps : (option : DisableTasks) (row : JobRow) (s : State) → Keeps s (disable row option s)
  disable_keeps Requeue row s =
      ((stop_keeps (is_in_job row.id) WantRequeue (put_job (job_in Disabling row) s)).0, (job_put (job_in Disabling row) s refl).1)
  disable_keeps Terminate row s =
      ((stop_keeps (is_in_job row.id) WantTerminate (put_job (job_in Disabling row) s)).0, (job_put (job_in Disabling row) s refl).1)
  disable_keeps Wait row s = job_put (job_in Disabling row) s refl
