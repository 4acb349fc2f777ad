-- With no due step left no task is left that may be placed and fits, while run numbers are left.
use Rattle.std.proofs.Common.{◌≡◌, ℕ, Bool, true, false, ◌&&◌, ◌||◌, List, [], ◌∷◌, ◌++◌, map, Option, Some, None, cond, is_some, option_and_then, refl, sym}
use Rattle.std.proofs.Common.{◌∙◌, ap}
use Rattle.std.specs.List.{list_any, filter}
use Rattle.std.specs.Prelude.{flat_map}
use Rattle.bt_base.proofs.SameIds.{same_equiv}
use Rattle.batch_model.specs.Dues.{job_step, due_step, pool_step, node_step}
use Rattle.batch_model.specs.Finding.{or_else, first_of, only_if, has_number_left}
use Rattle.batch_model.specs.Placing.{is_above, place_first}
use Rattle.batch_model.specs.Rows.{is_job, is_task, job_of, task_of}
use Rattle.batch_model.specs.Scaling.{sample_first}
use Rattle.batch_model.specs.Steps.{DueStep}
use Rattle.batch_model.specs.Tasks.{is_in_job}
use Rattle.batch_model.specs.Variants.{State, JobRow, TaskRow}
use Rattle.model_lists.proofs.KeptRows.{any_still}
use Rattle.model_lists.proofs.RowLists.{any_found, any_weaker, find_none, find_test}
use Rattle.model_lists.proofs.Tests.{and_first, and_second, and_true}
use Rattle.model_laws.specs.Order.{put_in, in_order, JobTask, tasks_of, tasks_in_order, can_be_placed, next_task, place_on_choice, HasNoneToPlace}
use Rattle.model_laws.proofs.Order.{gives, places_next}

-- one of three, in another order
exchanged : (a b c : Bool) → (b || (a || c)) ≡ (a || (b || c))
exchanged true true c = refl
exchanged true false c = refl
exchanged false true c = refl
exchanged false false c = refl

-- one of three, in other groups
grouped : (a b c : Bool) → (a || (b || c)) ≡ ((a || b) || c)
grouped true b c = refl
grouped false b c = refl

module _ {R : Type 0} (test : R → Bool) where
  -- some row passes in the order just if some row does
  any_put : (before : R → R → Bool) (row : R) (rows : List R) → list_any test (put_in before row rows) ≡ (test row || list_any test rows)
  any_put before row [] = refl
  any_put before row (other ∷ others) = by_test (any_put before row others) (before other row)
    where
      by_test : list_any test (put_in before row others) ≡ (test row || list_any test others) → (b : Bool)
          → list_any test (cond b (other ∷ put_in before row others) (row ∷ other ∷ others)) ≡ (test row || list_any test (other ∷ others))
      by_test ih true = ap (λ b. test other || b) ih ∙ exchanged (test row) (test other) (list_any test others)
      by_test ih false = refl

  any_ordered : (before : R → R → Bool) (rows : List R) → list_any test (in_order before rows) ≡ list_any test rows
  any_ordered before [] = refl
  any_ordered before (row ∷ rows) = any_put before row (in_order before rows) ∙ ap (λ b. test row || b) (any_ordered before rows)

  -- in two lists, one after the other
  any_both : (rows others : List R) → list_any test (rows ++ others) ≡ (list_any test rows || list_any test others)
  any_both [] others = refl
  any_both (row ∷ rows) others = ap (λ b. test row || b) (any_both rows others) ∙ grouped (test row) (list_any test rows) (list_any test others)

module _ {A B : Type 0} (test : B → Bool) where
  any_of_made : (make : A → B) (rows : List A) → list_any test (map make rows) ≡ list_any (λ row. test (make row)) rows
  any_of_made make [] = refl
  any_of_made make (row ∷ rows) = ap (λ b. test (make row) || b) (any_of_made make rows)

  any_of_lists : (give : A → List B) (rows : List A) → list_any test (flat_map give rows) ≡ list_any (λ row. list_any test (give row)) rows
  any_of_lists give [] = refl
  any_of_lists give (row ∷ rows) =
      any_both test (give row) (flat_map give rows) ∙ ap (λ b. list_any test (give row) || b) (any_of_lists give rows)

-- if the first of several is none, each is
rest_none : {A : Type 0} (one other : Option A) → or_else one other ≡ None → other ≡ None
rest_none None other h = h
rest_none (Some one) other h = cc

first_none : {A : Type 0} (one other : Option A) → or_else one other ≡ None → one ≡ None
first_none None other h = refl
first_none (Some one) other h = cc

module _ (s : State) where
  -- a task that can be placed is among all tasks in order
  in_all : (job : JobRow) (task : TaskRow) → job_of s task.job ≡ Some job → task_of s task.job task.id ≡ Some task
      → can_be_placed s (record { job = job; task = task }) ≡ true → list_any (can_be_placed s) (tasks_in_order s) ≡ true
  in_all job task job_there task_there can =
      any_of_lists (can_be_placed s) (tasks_of s) (in_order is_above s.jobs)
      ∙ any_ordered (λ row. list_any (can_be_placed s) (tasks_of s row)) is_above s.jobs
      ∙ any_found (λ row. list_any (can_be_placed s) (tasks_of s row)) (is_job task.job) job s.jobs job_there of_job
    where
      own : is_in_job job.id task ≡ true
      own = same_equiv.symm task.job job.id ∙ find_test (is_job task.job) job s.jobs job_there

      among : list_any (λ row. is_in_job job.id row && can_be_placed s (record { job = job; task = row })) (filter (is_in_job job.id) s.tasks) ≡ true
      among =
          any_still (is_in_job job.id) (λ row. is_in_job job.id row && can_be_placed s (record { job = job; task = row }))
          (λ row. and_first (is_in_job job.id row) (can_be_placed s (record { job = job; task = row }))) s.tasks
          ∙ any_found (λ row. is_in_job job.id row && can_be_placed s (record { job = job; task = row })) (is_task task.job task.id) task s.tasks task_there
          (and_true own can)

      of_job : list_any (can_be_placed s) (tasks_of s job) ≡ true
      of_job =
          any_of_made (can_be_placed s) (λ row. record { job = job; task = row }) (filter (is_in_job job.id) s.tasks)
          ∙ any_weaker (λ row. is_in_job job.id row && can_be_placed s (record { job = job; task = row }))
          (λ row. can_be_placed s (record { job = job; task = row }))
          (λ row. and_second (is_in_job job.id row) (can_be_placed s (record { job = job; task = row }))) (filter (is_in_job job.id) s.tasks) among

  -- no task is next where none is placed
  no_next : (o : Option JobTask) → next_task s ≡ o → option_and_then (place_on_choice s) o ≡ None → o ≡ None
  no_next None e h = refl
  no_next (Some one) e h =
      let some : is_some (place_on_choice s one) ≡ true = gives s one (find_test (can_be_placed s) one (tasks_in_order s) e) in
      let none : place_on_choice s one ≡ None = h in
      cc

  unless_given : (b : Bool) (o : Option DueStep) → b ≡ true → only_if b o ≡ None → o ≡ None
  unless_given true o e h = h
  unless_given false o e h = cc

  none_placed : place_first s ≡ None → has_number_left s.next_run ≡ true → next_task s ≡ None
  none_placed h left =
      no_next (next_task s) refl
      (unless_given (has_number_left s.next_run) (option_and_then (place_on_choice s) (next_task s)) left (sym (places_next s) ∙ h))

  -- the rule that places tasks is the last one
  none_by_last : (seats : ℕ) → due_step seats s ≡ None → place_first s ≡ None
  none_by_last seats h =
      first_none (place_first s) None
      (rest_none (node_step seats s) (first_of (place_first s ∷ []))
      (rest_none (pool_step s) (first_of (node_step seats s ∷ place_first s ∷ []))
      (rest_none (job_step s) (first_of (pool_step s ∷ node_step seats s ∷ place_first s ∷ []))
      (rest_none (sample_first s) (first_of (job_step s ∷ pool_step s ∷ node_step seats s ∷ place_first s ∷ [])) h))))

  pub none_to_place : (seats : ℕ) → due_step seats s ≡ None → has_number_left s.next_run ≡ true → HasNoneToPlace s
  none_to_place seats rest left job task job_there task_there = by_test (can_be_placed s (record { job = job; task = task })) refl
    where
      none_left : list_any (can_be_placed s) (tasks_in_order s) ≡ false
      none_left = find_none (can_be_placed s) (tasks_in_order s) (none_placed (none_by_last seats rest) left)

      by_test : (b : Bool) → can_be_placed s (record { job = job; task = task }) ≡ b → b ≡ false
      by_test true e =
          let some : list_any (can_be_placed s) (tasks_in_order s) ≡ true = in_all job task job_there task_there e in
          let none : list_any (can_be_placed s) (tasks_in_order s) ≡ false = none_left in
          cc
      by_test false e = refl
