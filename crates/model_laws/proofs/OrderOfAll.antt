-- The order of placing has all tasks of the tables, each once.
use Rattle.std.proofs.Common.{◌≡◌, ℕ, ◌+◌, Bool, true, false, ◌||◌, List, [], ◌∷◌, map, cond, sum_by, count_by, refl, sym, ◌∙◌, ap, arith}
use Rattle.std.specs.List.{list_any, filter}
use Rattle.std.specs.Prelude.{flat_map}
use Rattle.std.proofs.lemmas.List.Sums.{sum_by-cons, sum_by-append}
use Rattle.bt_base.proofs.SameIds.{same_equiv}
use Rattle.bt_rows.specs.Keys.{same_job}
use Rattle.bt_rows.specs.Lists.{AreDistinct}
use Rattle.batch_model.specs.Finding.{Each}
use Rattle.batch_model.specs.Placing.{is_above}
use Rattle.batch_model.specs.Rows.{is_job}
use Rattle.batch_model.specs.Sound.{IsSound}
use Rattle.batch_model.specs.Tasks.{is_in_job}
use Rattle.batch_model.specs.Variants.{State, JobRow, TaskRow}
use Rattle.batch_model.specs.WellFormed.{has_job_row}
use Rattle.model_laws.specs.Order.{put_in, in_order, JobTask, tasks_of, tasks_in_order, PlacesInOrder}
use Rattle.model_laws.proofs.Order.{places_next}
use Rattle.model_lists.proofs.RowLists.{each_head, each_tail, any_none, any_weaker, none_weaker}
use Rattle.model_lists.proofs.RowSums.{sum_agree, count_none}

module _ {R : Type 0} where
  -- a sum stays if rows are put in order
  sum_put : (before : R → R → Bool) (f : R → ℕ) (row : R) (rows : List R) → sum_by f (put_in before row rows) ≡ f row + sum_by f rows
  sum_put before f row [] = sum_by-cons f row []
  sum_put before f row (other ∷ others) = by_test (sum_put before f row others) (before other row)
    where
      by_test : sum_by f (put_in before row others) ≡ f row + sum_by f others → (b : Bool)
          → sum_by f (cond b (other ∷ put_in before row others) (row ∷ other ∷ others)) ≡ f row + sum_by f (other ∷ others)
      by_test ih true = rw (sum_by-cons f other (put_in before row others), sum_by-cons f other others, ih) (omega arith)
      by_test ih false = sum_by-cons f row (other ∷ others)

  sum_ordered : (before : R → R → Bool) (f : R → ℕ) (rows : List R) → sum_by f (in_order before rows) ≡ sum_by f rows
  sum_ordered before f [] = refl
  sum_ordered before f (row ∷ rows) =
      sum_put before f row (in_order before rows) ∙ ap (λ n. f row + n) (sum_ordered before f rows) ∙ sym (sum_by-cons f row rows)

  sum_of_none : (rows : List R) → sum_by (λ (row : R). 0) rows ≡ 0
  sum_of_none [] = refl
  sum_of_none (row ∷ rows) =
      let others : sum_by (λ (x : R). 0) rows ≡ 0 = sum_of_none rows in
      rw (sum_by-cons (λ (x : R). 0) row rows, others) refl

  sum_of_two : (f g : R → ℕ) (rows : List R) → sum_by (λ row. f row + g row) rows ≡ sum_by f rows + sum_by g rows
  sum_of_two f g [] = refl
  sum_of_two f g (row ∷ rows) =
      let others : sum_by (λ x. f x + g x) rows ≡ sum_by f rows + sum_by g rows = sum_of_two f g rows in
      rw (sum_by-cons (λ x. f x + g x) row rows, sum_by-cons f row rows, sum_by-cons g row rows, others) (omega arith)

  -- of rows that are alike none passes but one, if one does
  count_one : (r : R → R → Bool) (p : R → Bool) → ((x y : R) → p x ≡ true → p y ≡ true → r x y ≡ true) → (rows : List R) → AreDistinct r rows
      → list_any p rows ≡ true → count_by p rows ≡ 1
  count_one r p alike [] d h = cc
  count_one r p alike (row ∷ rows) d h = by_test (count_one r p alike rows d.1) (p row) refl
    where
      by_test : (list_any p rows ≡ true → count_by p rows ≡ 1) → (b : Bool) → p row ≡ b → count_by p (row ∷ rows) ≡ 1
      by_test ih true e =
          let others : count_by p rows ≡ 0 = count_none p rows (any_none p rows (none_weaker (r row) p (λ y k. alike row y e k) rows d.0)) in
          rw (sum_by-cons (λ x. cond {A = ℕ} (p x) 1 0) row rows, e, others) refl
      by_test ih false e =
          let later : list_any p rows ≡ true = sym (ap (λ b. b || list_any p rows) e) ∙ h in
          rw (sum_by-cons (λ x. cond {A = ℕ} (p x) 1 0) row rows, e, ih later) refl

module _ {A B : Type 0} where
  sum_of_made : (f : B → ℕ) (g : A → B) (rows : List A) → sum_by f (map g rows) ≡ sum_by (λ row. f (g row)) rows
  sum_of_made f g [] = refl
  sum_of_made f g (row ∷ rows) =
      sum_by-cons f (g row) (map g rows) ∙ ap (λ n. f (g row) + n) (sum_of_made f g rows) ∙ sym (sum_by-cons (λ x. f (g x)) row rows)

  sum_of_lists : (f : B → ℕ) (g : A → List B) (rows : List A) → sum_by f (flat_map g rows) ≡ sum_by (λ row. sum_by f (g row)) rows
  sum_of_lists f g [] = refl
  sum_of_lists f g (row ∷ rows) =
      sum_by-append f (g row) (flat_map g rows)
      ∙ ap (λ n. sum_by f (g row) + n) (sum_of_lists f g rows)
      ∙ sym (sum_by-cons (λ x. sum_by f (g x)) row rows)

  -- rows that are each of one group, counted by groups
  module _ (of_group : A → B → Bool) (test : B → Bool) (a : B → Bool) (groups : List A)
      (once : (row : B) → a row ≡ true → count_by (λ group. of_group group row) groups ≡ 1) where
    one_more : (group : A) (row : B) (rows : List B)
        → count_by test (filter (of_group group) (row ∷ rows))
        ≡ cond (of_group group row) (cond (test row) 1 0) 0 + count_by test (filter (of_group group) rows)
    one_more group row rows = by_test (of_group group row)
      where
        by_test : (b : Bool) → count_by test (cond b (row ∷ filter (of_group group) rows) (filter (of_group group) rows))
            ≡ cond b (cond (test row) 1 0) 0 + count_by test (filter (of_group group) rows)
        by_test true = sum_by-cons (λ x. cond {A = ℕ} (test x) 1 0) row (filter (of_group group) rows)
        by_test false = omega arith

    first_row : (row : B) (b : Bool) → a row ≡ true → sum_by (λ group. cond (of_group group row) (cond {A = ℕ} b 1 0) 0) groups ≡ cond b 1 0
    first_row row true h = once row h
    first_row row false h =
        sum_agree (λ group. cond (of_group group row) 0 0) (λ group. 0) (λ group. either (of_group group row)) groups ∙ sum_of_none groups
      where
        either : (b : Bool) → cond {A = ℕ} b 0 0 ≡ 0
        either true = refl
        either false = refl

    by_groups : (rows : List B) → Each a rows → sum_by (λ group. count_by test (filter (of_group group) rows)) groups ≡ count_by test rows
    by_groups [] h = sum_of_none groups
    by_groups (row ∷ rows) h =
        sum_agree (λ group. count_by test (filter (of_group group) (row ∷ rows)))
        (λ group. cond (of_group group row) (cond (test row) 1 0) 0 + count_by test (filter (of_group group) rows))
        (λ group. one_more group row rows) groups
        ∙ sum_of_two (λ group. cond (of_group group row) (cond (test row) 1 0) 0) (λ group. count_by test (filter (of_group group) rows)) groups
        ∙ ap (λ n. n + sum_by (λ group. count_by test (filter (of_group group) rows)) groups) (first_row row (test row) (each_head a row rows h))
        ∙ ap (λ n. cond (test row) 1 0 + n) (by_groups rows (each_tail a row rows h))
        ∙ sym (sum_by-cons (λ x. cond {A = ℕ} (test x) 1 0) row rows)

module _ (seats : ℕ) (s : State) (h : IsSound seats s) where
  -- a task is of one job
  of_one_job : (task : TaskRow) → has_job_row s task.job ≡ true → count_by (λ (job : JobRow). is_in_job job.id task) s.jobs ≡ 1
  of_one_job task there =
      count_one same_job (λ (job : JobRow). is_in_job job.id task)
      (λ x y e k. sym (same_equiv.congr task.job x.id y.id e) ∙ k)
      s.jobs h.consistent.keys.jobs
      (any_weaker (is_job task.job) (λ (job : JobRow). is_in_job job.id task) (λ job e. same_equiv.symm task.job job.id ∙ e) s.jobs there)

  all_tasks : (test : TaskRow → Bool) → count_by (λ (one : JobTask). test one.task) (tasks_in_order s) ≡ count_by test s.tasks
  all_tasks test =
      sum_of_lists (λ (one : JobTask). cond {A = ℕ} (test one.task) 1 0) (tasks_of s) (in_order is_above s.jobs)
      ∙ sum_ordered is_above (λ job. count_by (λ (one : JobTask). test one.task) (tasks_of s job)) s.jobs
      ∙ sum_agree (λ job. count_by (λ (one : JobTask). test one.task) (tasks_of s job)) (λ job. count_by test (filter (is_in_job job.id) s.tasks))
      (λ job. sum_of_made (λ (one : JobTask). cond {A = ℕ} (test one.task) 1 0) (λ row. record { job = job; task = row }) (filter (is_in_job job.id) s.tasks))
      s.jobs
      ∙ by_groups (λ (job : JobRow) (task : TaskRow). is_in_job job.id task) test (λ task. has_job_row s task.job) s.jobs of_one_job s.tasks
      h.consistent.named.jobs_of_tasks

  -- all tasks are in the order, and the rule places the next one
  pub places_in_order : PlacesInOrder s
  places_in_order = record { all = all_tasks; next = places_next s }
