-- The rule that places tasks, job by job, takes the next one of all tasks in the order of placing.
use Rattle.std.proofs.Common.{◌≡◌, ℤ, pos, negsuc, int_lt, Bool, true, false, not, ◌&&◌, ◌||◌, List, [], ◌∷◌, Option, Some, None, cond}
use Rattle.std.proofs.Common.{is_some, is_none, option_map, option_and_then, refl, sym, ◌∙◌, ap, arith}
use Rattle.std.proofs.lemmas.Bool.Decides.{nat_tests}
use Rattle.std.specs.List.{list_any, find, filter}
use Rattle.std.specs.Option.{option_map_or}
use Rattle.batch_model.specs.Finding.{best, find_map, only_if, has_number_left}
use Rattle.batch_model.specs.Jobs.{is_job_active}
use Rattle.batch_model.specs.Placing.{has_turn, places_tasks, fits, precedes, choice, place, place_task, place_in, place_of_job, has_placing}
use Rattle.batch_model.specs.Placing.{is_above, place_first}
use Rattle.batch_model.specs.Readiness.{is_ready}
use Rattle.batch_model.specs.Rows.{pool_of}
use Rattle.batch_model.specs.Steps.{DueStep}
use Rattle.batch_model.specs.Tasks.{is_in_job}
use Rattle.batch_model.specs.Variants.{State, PoolRow, NodeRow, JobRow, TaskRow}
use Rattle.model_laws.specs.Order.{in_order, JobTask, tasks_of, tasks_in_order, may_be_placed, fits_somewhere, can_be_placed, next_task}
use Rattle.model_laws.specs.Order.{place_on_choice, place_next}
use Rattle.model_laws.proofs.OrderedRows.{first_is_best, first_given, given_agree, given_passing, none_given, given_if, given_of_made, given_of_lists}
use Rattle.model_lists.proofs.BestRows.{leading, best_first_row}
use Rattle.model_lists.proofs.RowLists.{find_agree, find_test}
use Rattle.model_lists.proofs.Tests.{and_second, or_false_first, or_false_second}

-- priorities

not_both : (x y : ℤ) → int_lt x y ≡ true → int_lt y x ≡ false
not_both (pos a) (pos b) h = grind (arith, nat_tests)
not_both (pos a) (negsuc b) h = cc
not_both (negsuc a) (pos b) h = refl
not_both (negsuc a) (negsuc b) h = grind (arith, nat_tests)

not_below_all : (x y z : ℤ) → int_lt x y ≡ false → int_lt y z ≡ false → int_lt x z ≡ false
not_below_all (pos a) (pos b) (pos c) h k = grind (arith, nat_tests)
not_below_all (pos a) (pos b) (negsuc c) h k = refl
not_below_all (pos a) (negsuc b) (pos c) h k = cc
not_below_all (pos a) (negsuc b) (negsuc c) h k = refl
not_below_all (negsuc a) (pos b) z h k = cc
not_below_all (negsuc a) (negsuc b) (pos c) h k = cc
not_below_all (negsuc a) (negsuc b) (negsuc c) h k = grind (arith, nat_tests)

-- a choice among rows

module _ {R : Type 0} (before : R → R → Bool) (test : R → Bool) where
  none_passes : (rows : List R) → list_any test rows ≡ false → filter test rows ≡ []
  none_passes [] h = refl
  none_passes (row ∷ rows) h =
      ap (λ b. cond b (row ∷ filter test rows) (filter test rows)) (or_false_first (test row) (list_any test rows) h)
      ∙ none_passes rows (or_false_second (test row) (list_any test rows) h)

  -- there is none if no row passes
  no_best : (rows : List R) → list_any test rows ≡ false → best before (filter test rows) ≡ None
  no_best rows h = ap (best before) (none_passes rows h)

  led : (row : R) (o : Option R) → is_some (leading before (Some row) o) ≡ true
  led row None = refl
  led row (Some other) = by_test (before other row)
    where
      by_test : (b : Bool) → is_some (cond b (Some other) (Some row)) ≡ true
      by_test true = refl
      by_test false = refl

  -- there is one if a row passes
  some_best : (rows : List R) → list_any test rows ≡ true → is_some (best before (filter test rows)) ≡ true
  some_best [] h = cc
  some_best (row ∷ rows) h = by_test (some_best rows) (test row) refl
    where
      by_test : (list_any test rows ≡ true → is_some (best before (filter test rows)) ≡ true) → (b : Bool) → test row ≡ b
          → is_some (best before (cond b (row ∷ filter test rows) (filter test rows))) ≡ true
      by_test ih true e = ap is_some (best_first_row before row (filter test rows)) ∙ led row (best before (filter test rows))
      by_test ih false e = ih (sym (ap (λ b. b || list_any test rows) e) ∙ h)

-- conditions

module _ {A : Type 0} where
  abbrev none : Option A
  none = None

  none_if : (b : Bool) → only_if b none ≡ none
  none_if true = refl
  none_if false = refl

  -- the conditions of the job, the pool and the task, one after the other or all together
  joined : (active opened turn ready plain fitting of_job : Bool) (o : Option A) → (fitting ≡ false → o ≡ None)
      → only_if (active && turn) (only_if opened (only_if (of_job && ready && plain) o))
      ≡ only_if of_job (only_if ((active && opened && turn && ready && plain) && fitting) o)
  joined false opened turn ready plain fitting of_job o h = sym (none_if of_job)
  joined true false turn ready plain fitting of_job o h = none_if turn ∙ sym (none_if of_job)
  joined true true false ready plain fitting of_job o h = sym (none_if of_job)
  joined true true true false plain fitting true o h = refl
  joined true true true false plain fitting false o h = refl
  joined true true true true false fitting true o h = refl
  joined true true true true false fitting false o h = refl
  joined true true true true true false true o h = h refl
  joined true true true true true false false o h = refl
  joined true true true true true true true o h = refl
  joined true true true true true true false o h = refl

module _ (s : State) where
  -- what a task gives, with its job
  abbrev give : JobTask → Option DueStep
  give one = only_if (can_be_placed s one) (place_on_choice s one)

  -- it is placed if it can be
  pub gives : (one : JobTask) → can_be_placed s one ≡ true → is_some (place_on_choice s one) ≡ true
  gives one = by_pool (pool_of s one.job.pool)
    where
      chosen : (pool : PoolRow) (o : Option NodeRow) → is_some o ≡ true → is_some (option_map (place s one.job one.task) o) ≡ true
      chosen pool None h = cc
      chosen pool (Some node) h = refl

      by_pool : (o : Option PoolRow) → option_map_or (λ pool. may_be_placed s one pool && fits_somewhere s one pool) o false ≡ true
          → is_some (option_and_then (λ pool. option_map (place s one.job one.task) (choice s one.job pool one.task.slots)) o) ≡ true
      by_pool None h = cc
      by_pool (Some pool) h =
          chosen pool (choice s one.job pool one.task.slots)
          (some_best (precedes s pool.fill) (fits s one.job pool one.task.slots) s.nodes
          (and_second (may_be_placed s one pool) (fits_somewhere s one pool) h))

  gives_if : (one : JobTask) → is_some (give one) ≡ can_be_placed s one
  gives_if one = by_test (can_be_placed s one) refl
    where
      by_test : (b : Bool) → can_be_placed s one ≡ b → is_some (only_if b (place_on_choice s one)) ≡ b
      by_test true e = gives one e
      by_test false e = refl

  -- the first task that gives something is the first that can be placed
  first_placed : (tasks : List JobTask) → find_map give tasks ≡ option_and_then (place_on_choice s) (find (can_be_placed s) tasks)
  first_placed tasks =
      first_given give tasks
      ∙ ap (option_and_then give) (find_agree (λ one. is_some (give one)) (can_be_placed s) gives_if tasks)
      ∙ by_found (find (can_be_placed s) tasks) refl
    where
      by_found : (o : Option JobTask) → find (can_be_placed s) tasks ≡ o → option_and_then give o ≡ option_and_then (place_on_choice s) o
      by_found None e = refl
      by_found (Some one) e = ap (λ b. only_if b (place_on_choice s one)) (find_test (can_be_placed s) one tasks e)

  -- the tasks of a job
  module _ (job : JobRow) where
    abbrev with_job : TaskRow → JobTask
    with_job row = record { job = job; task = row }

    by_pool : (o : Option PoolRow) → pool_of s job.pool ≡ o
        → only_if (places_tasks s job) (option_and_then (place_in s job) o)
        ≡ find_map (λ row. only_if (is_in_job job.id row)
        (only_if (option_map_or (λ pool. may_be_placed s (with_job row) pool && fits_somewhere s (with_job row) pool) o false)
        (option_and_then (λ pool. option_map (place s job row) (choice s job pool row.slots)) o)))
        s.tasks
    by_pool None e =
        none_if (places_tasks s job)
        ∙ sym (none_given s.tasks)
        ∙ given_agree (λ row. None) (λ row. only_if (is_in_job job.id row) None) (λ row. sym (none_if (is_in_job job.id row))) s.tasks
    by_pool (Some pool) e =
        ap (only_if (places_tasks s job)) (given_if (not pool.deleting) (place_task s job pool) s.tasks)
        ∙ given_if (places_tasks s job) (λ row. only_if (not pool.deleting) (place_task s job pool row)) s.tasks
        ∙ given_agree
        (λ row. only_if (places_tasks s job) (only_if (not pool.deleting) (place_task s job pool row)))
        (λ row. only_if (is_in_job job.id row)
        (only_if (may_be_placed s (with_job row) pool && fits_somewhere s (with_job row) pool)
        (option_map (place s job row) (choice s job pool row.slots))))
        (λ row. joined (is_job_active job.state) (not pool.deleting) (has_turn s job) (is_ready s row) (is_none row.multi)
        (fits_somewhere s (with_job row) pool) (is_in_job job.id row) (option_map (place s job row) (choice s job pool row.slots))
        (λ n. ap (option_map (place s job row)) (no_best (precedes s pool.fill) (fits s job pool row.slots) s.nodes n)))
        s.tasks

    -- the first of them that can be placed
    of_job : place_of_job s job ≡ find_map give (tasks_of s job)
    of_job =
        by_pool (pool_of s job.pool) refl
        ∙ sym (given_passing (λ row. give (with_job row)) (is_in_job job.id) s.tasks)
        ∙ sym (given_of_made give with_job (filter (is_in_job job.id) s.tasks))

  -- the rule by jobs gives the same as the order of all tasks: the same task on the same node, or none
  pub places_next : place_first s ≡ place_next s
  places_next = ap (only_if (has_number_left s.next_run)) (by_jobs ∙ by_tasks)
    where
      by_jobs : option_and_then (place_of_job s) (best is_above (filter (has_placing s) s.jobs)) ≡ find_map (place_of_job s) (in_order is_above s.jobs)
      by_jobs =
          sym
          (first_given (place_of_job s) (in_order is_above s.jobs)
          ∙ ap (option_and_then (place_of_job s))
          (first_is_best is_above (λ a b h. not_both b.priority a.priority h) (λ a b c h k. not_below_all c.priority b.priority a.priority k h)
          (has_placing s) s.jobs))

      by_tasks : find_map (place_of_job s) (in_order is_above s.jobs) ≡ option_and_then (place_on_choice s) (next_task s)
      by_tasks =
          given_agree (place_of_job s) (λ job. find_map give (tasks_of s job)) of_job (in_order is_above s.jobs)
          ∙ sym (given_of_lists give (tasks_of s) (in_order is_above s.jobs))
          ∙ first_placed (tasks_in_order s)
