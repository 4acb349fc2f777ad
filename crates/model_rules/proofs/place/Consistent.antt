-- Tables stay sound when a task is placed.
use Rattle.std.proofs.Common.{◌≡◌, ℕ, ◌+◌, ◌<◌, ◌≤◌, Bool, true, false, not, ◌&&◌, ◌||◌, nat_eq, nat_lt, nat_le, List, [], ◌∷◌, ◌++◌, Option, Some, None}
use Rattle.std.proofs.Common.{is_some, is_none, find, filter, sum_by, cond, option_and_then, refl, sym, ◌∙◌, ap, subst, true≢false, arith}
use Rattle.std.specs.List.{list_any}
use Rattle.std.proofs.lemmas.Bool.Decides.{nat_tests, Decides-eqb}
use Rattle.std.proofs.lemmas.List.Elements.{filter-append}
use Rattle.std.proofs.lemmas.List.Sums.{sum_by-append}
use Rattle.bt_base.specs.Ids.{same}
use Rattle.bt_base.proofs.SameIds.{same_equiv}
use Rattle.bt_rows.specs.Keys.{same_pool, same_pool_equiv, same_node, same_node_equiv, same_task, same_task_equiv, same_run}
use Rattle.bt_rows.specs.Lists.{AreDistinct}
use Rattle.bt_rows.proofs.DistinctRows.{found_first}
use Rattle.batch_model.specs.Finding.{names, change_where}
use Rattle.batch_model.specs.Rows.{is_pool, is_node, is_task, pool_of, put_task, add_run_row}
use Rattle.batch_model.specs.Nodes.{is_in_pool}
use Rattle.batch_model.specs.Runs.{is_coordination, is_work, is_unended, is_run_of_task, ending_of, work_run, is_busy_for}
use Rattle.batch_model.specs.Tasks.{is_active, is_placed, is_completed, is_undisturbed, is_busy, main_ending, is_in_job}
use Rattle.batch_model.specs.Slots.{owns, holds_on, held_slots}
use Rattle.batch_model.specs.Placing.{placed}
use Rattle.batch_model.specs.Sound.{IsConsistent, has_node_while_unended, belongs, can_be_settled, fits_nodes, names_no_task, has_slots_for}
use Rattle.batch_model.specs.WellFormed.{has_fitting_marks, is_closed_if_completed, has_job_row, has_named_job, is_task_of_attempt, has_named_task}
use Rattle.batch_model.specs.WellFormed.{are_one_attempt}
use Rattle.batch_model.specs.Variants.{State, PoolRow, NodeRow, JobRow, TaskRow, RunRow, TaskStage, Active, Placed, Completed, TaskRun, RunState}
use Rattle.model_lists.proofs.Tests.{and_true, and_first, and_second, or_first, or_second, true_not, not_true, asked, under}
use Rattle.model_lists.proofs.RowLists.{each_any, each_append, each_weaker, each_of_two, each_found, find_append_old, any_append_old, any_found, any_weaker}
use Rattle.model_lists.proofs.RowLists.{any_weaker_where, none_any, any_append_new}
use Rattle.model_lists.proofs.ChangedRows.{changed, each_change, each_change_same, any_change}
use Rattle.model_lists.proofs.DistinctLists.{distinct_append, distinct_change, each_with_key}
use Rattle.model_lists.proofs.KeyedLists.{put_is_change, sum_by-fewer}
use Rattle.model_lists.proofs.NextNumbers.{below_other, below_next, below_own_next, is_itself}
use Rattle.model_rules.proofs.place.NodeChosen.{is_candidate}

-- lists and numbers

-- a test of no row in particular
any_alike : {R : Type 0} (b : Bool) (xs : List R) → list_any (λ x. b) xs ≡ true → b ≡ true
any_alike true xs h = refl
any_alike false [] h = cc
any_alike false (x ∷ xs) h = any_alike false xs h

module _ {R : Type 0} (test : R → Bool) (change : R → R) where
  -- some row passes after a change if the changed form of some row passes
  any_changed_form : (q : R → Bool) (xs : List R) → list_any q (change_where test change xs) ≡ list_any (λ x. q (changed test change x)) xs
  any_changed_form q [] = refl
  any_changed_form q (x ∷ xs) = ap (λ b. q (changed test change x) || b) (any_changed_form q xs)

  -- some row passed before a change if some row passes after it
  any_change_back : (p q : R → Bool) → ((x : R) → test x ≡ true → q (change x) ≡ true → p x ≡ true) → ((x : R) → test x ≡ false → q x ≡ true → p x ≡ true)
      → (xs : List R) → list_any q (change_where test change xs) ≡ true → list_any p xs ≡ true
  any_change_back p q give keep xs h =
      any_weaker (λ x. q (changed test change x)) p (λ x. either x (test x) refl) xs (sym (any_changed_form q xs) ∙ h)
    where
      either : (x : R) (b : Bool) → test x ≡ b → q (cond b (change x) x) ≡ true → p x ≡ true
      either x true e k = give x e k
      either x false e k = keep x e k

-- a number is at most itself
is_at_most_itself : (n : ℕ) → nat_le n n ≡ true
is_at_most_itself n = grind (arith, nat_tests)

-- what is at most a number is at most the next one
at_most_next : (a b : ℕ) → nat_le a b ≡ true → nat_le a (b + 1) ≡ true
at_most_next a b h = grind (arith, nat_tests)

-- the next numbers are in the same order
next_below : (a b : ℕ) → nat_lt a b ≡ true → nat_lt (a + 1) (b + 1) ≡ true
next_below a b h = grind (arith, nat_tests)

-- a number that is at most another isn't the next one
not_next : (a b : ℕ) → nat_le a b ≡ true → nat_eq a (b + 1) ≡ true → ⊥
not_next a b h k = grind (arith, nat_tests)

-- what is at most a number is at most an equal one
at_most_equal : (a b c : ℕ) → nat_eq b c ≡ true → nat_le a b ≡ true → nat_le a c ≡ true
at_most_equal a b c e h = grind (arith, nat_tests)

-- what is no more than a number is at most what that one is
less_is_enough : (a b c : ℕ) → a ≤ b → nat_le b c ≡ true → nat_le a c ≡ true
less_is_enough a b c h k = grind (arith, nat_tests)

-- what grows by no more than is free is no more than there is
room_is_enough : (a b c d : ℕ) → a ≤ b + c → nat_le (b + c) d ≡ true → nat_le a d ≡ true
room_is_enough a b c d h k = grind (arith, nat_tests)

-- numbers that pass the test are equal
equal_numbers : (a b : ℕ) → nat_eq a b ≡ true → a ≡ b
equal_numbers a b h = grind (arith, nat_tests)

-- ids

-- what names two ids names one
names_one : (o : Option (List ℕ)) (a b : List ℕ) → names o a ≡ true → names o b ≡ true → same a b ≡ true
names_one None a b h k = cc
names_one (Some name) a b h k = sym (same_equiv.congr name a b h) ∙ k

-- a run that is of two tasks is of one
of_one_task : (run : RunRow) (task other : TaskRow) → is_run_of_task other.job other.id run ≡ true → is_run_of_task task.job task.id run ≡ true
    → is_task task.job task.id other ≡ true
of_one_task run task other h k =
    and_true (names_one run.job other.job task.job (and_first _ _ h) (and_first _ _ k))
    (names_one run.task other.id task.id (and_second _ _ h) (and_second _ _ k))

-- a run that is of a task names one
names_some : (o : Option (List ℕ)) (id : List ℕ) → names o id ≡ true → is_none o ≡ false
names_some None id h = cc
names_some (Some name) id h = refl

-- one of two passes, and not the first
or_other : (a b : Bool) → (a || b) ≡ true → a ≡ false → b ≡ true
or_other true b h k = cc
or_other false b h k = h

-- an active task isn't placed
active_unplaced : (stage : TaskStage) → is_active stage ≡ true → is_placed stage ≡ false
active_unplaced Active h = refl
active_unplaced Placed h = cc
active_unplaced Completed h = cc

-- a task that isn't completed isn't closed
unclosed : (a b c : Bool) → a ≡ false → ((a && b) || (not a && c)) ≡ true → c ≡ true
unclosed true b c h k = cc
unclosed false b c h k = k

-- a main run that has ended is still found after a run was added
ending_kept : (p : RunRow → Bool) (runs : List RunRow) (run : RunRow) (o : Option RunRow) → find p runs ≡ o
    → is_some (option_and_then (λ (r : RunRow). ending_of r.state) o) ≡ true
    → is_some (option_and_then (λ (r : RunRow). ending_of r.state) (find p (runs ++ run ∷ []))) ≡ true
ending_kept p runs run None e h = cc
ending_kept p runs run (Some main) e h = rw (find_append_old p runs run main e) h

-- such a task is active
pub placeable_active : (job : JobRow) (task : TaskRow) → is_candidate job task ≡ true → is_active task.stage ≡ true
placeable_active job task h = and_second (is_in_job job.id task) (is_active task.stage) h

-- an active task isn't completed
pub active_counts : (stage : TaskStage) → is_active stage ≡ true → is_completed stage ≡ false
active_counts Active h = refl
active_counts Placed h = cc
active_counts Completed h = cc

-- the tables in which the task is placed with a run in a state, on a node that is prepared
abbrev pub placed_with : State → NodeRow → TaskRow → RunState → State
placed_with s node task state = add_run_row (work_run s node (placed task) TaskRun task.line task.slots state) (put_task (placed task) s)

-- the new run is one of the placed task's present attempt
pub new_run_present : (s : State) (node : NodeRow) (task : TaskRow) (state : RunState) → is_unended state ≡ true
    → is_busy (placed_with s node task state) (placed task) ≡ true
new_run_present s node task state going =
    any_append_new (is_busy_for (placed task)) s.runs (work_run s node (placed task) TaskRun task.line task.slots state)
    (and_true (and_true (and_true (same_equiv.refl task.job) (same_equiv.refl task.id)) ((Decides-eqb (task.attempt + 1) (task.attempt + 1)).1 refl)) going)

module _ (seats : ℕ) (s : State) (job : JobRow) (node : NodeRow) (task : TaskRow) (state : RunState) (going : is_unended state ≡ true) (test : TaskRow → Bool)
    (h : IsConsistent seats s) (f : find test s.tasks ≡ Some task) (can : is_candidate job task ≡ true) where
  -- the tables after the step, and the new run
  abbrev after : State
  after = placed_with s node task state

  abbrev run : RunRow
  run = work_run s node (placed task) TaskRun task.line task.slots state

  -- a row with the task's key
  abbrev is_it : TaskRow → Bool
  is_it = is_task task.job task.id

  -- the task is the one with its key
  first : find (λ (other : TaskRow). same_task other task) s.tasks ≡ Some task
  first = found_first same_task same_task_equiv test task s.tasks h.keys.tasks f

  -- it was active
  active : is_active task.stage ≡ true
  active = placeable_active job task can

  -- the task is changed in its place
  tasks_changed : after.tasks ≡ change_where is_it placed s.tasks
  tasks_changed = put_is_change same_task same_task_equiv task s.tasks h.keys.tasks first placed (λ x. refl)

  -- the placed task is there
  placed_there : (p : TaskRow → Bool) → p (placed task) ≡ true → list_any p after.tasks ≡ true
  placed_there p k =
      any_change is_it (λ (old : TaskRow). placed task) is_it p (λ x t e. k) (λ x t e. cc) s.tasks
      (any_found is_it test task s.tasks f (same_task_equiv.refl task))

  -- ids of tasks stay distinct
  tasks_distinct : AreDistinct same_task after.tasks
  tasks_distinct =
      distinct_change is_it (λ (old : TaskRow). placed task) same_task
      (λ x y t. sym (same_task_equiv.congr x task y t))
      (λ x y t. same_task_equiv.symm x task ∙ sym (same_task_equiv.congr y task x t) ∙ same_task_equiv.symm y x)
      s.tasks h.keys.tasks

  -- the placed task isn't closed
  placed_unclosed : is_closed_if_completed (placed task) ≡ true
  placed_unclosed =
      unclosed (is_completed task.stage) (is_some task.closed) (is_none task.closed) (active_counts task.stage active)
      (each_found is_closed_if_completed test task s.tasks f h.fitting.closing)

  -- a run that names a task still names one
  named_kept : (old : RunRow) → has_named_task s old ≡ true → has_named_task after old ≡ true
  named_kept old k = either (is_none old.task) k
    where
      either : (b : Bool) → (b || list_any (is_task_of_attempt old) s.tasks) ≡ true → (b || list_any (is_task_of_attempt old) after.tasks) ≡ true
      either true m = refl
      either false m =
          rw tasks_changed
          (any_change is_it placed (is_task_of_attempt old) (is_task_of_attempt old)
          (λ x t e. and_true (and_first _ _ e) (at_most_next old.attempt x.attempt (and_second _ _ e)))
          (λ x t e. e) s.tasks m)

  -- the earlier runs of the task are of its earlier attempts
  earlier : (old : RunRow) → has_named_task s old ≡ true → is_run_of_task task.job task.id old ≡ true → nat_le old.attempt task.attempt ≡ true
  earlier old k r =
      any_alike (nat_le old.attempt task.attempt) s.tasks
      (any_weaker_where (λ (other : TaskRow). not (is_it other) || nat_eq other.attempt task.attempt) (is_task_of_attempt old)
      (λ (other : TaskRow). nat_le old.attempt task.attempt)
      (λ other a e.
      at_most_equal old.attempt other.attempt task.attempt
      (asked (is_it other) (nat_eq other.attempt task.attempt) a (of_one_task old task other (and_first _ _ e) r))
      (and_second _ _ e))
      s.tasks
      (each_with_key same_task same_task_equiv (λ (other : TaskRow). nat_eq other.attempt task.attempt) task task s.tasks h.keys.tasks first
      (is_itself task.attempt))
      (or_other (is_none old.task) (list_any (is_task_of_attempt old) s.tasks) k (names_some old.task task.id (and_second _ _ r))))

  -- no other main run has the new attempt
  is_first_run : list_any (λ (old : RunRow). are_one_attempt old run) s.runs ≡ false
  is_first_run =
      none_any (λ (old : RunRow). are_one_attempt old run) s.runs
      (each_weaker (has_named_task s) (λ (old : RunRow). not (are_one_attempt old run))
      (λ old k. apart old k (are_one_attempt old run) refl) s.runs h.named.tasks_of_runs)
    where
      apart : (old : RunRow) → has_named_task s old ≡ true → (b : Bool) → are_one_attempt old run ≡ b → not b ≡ true
      apart old k true e =
          absurd (not_next old.attempt task.attempt (earlier old k (and_second _ _ e)) (and_second _ _ (and_first _ _ e)))
      apart old k false e = refl

  -- the task was not placed, so that a run of a placed task is of another
  owned_elsewhere : (old : RunRow) → list_any (owns old) s.tasks ≡ true → list_any (λ (other : TaskRow). owns old other && not (is_it other)) s.tasks ≡ true
  owned_elsewhere old k =
      any_weaker_where (λ (other : TaskRow). not (is_it other) || is_active other.stage) (owns old) (λ (other : TaskRow). owns old other && not (is_it other))
      (λ other a e. and_true e (true_not (apart other a (is_it other) refl (and_first _ _ e)))) s.tasks
      (each_with_key same_task same_task_equiv (λ (other : TaskRow). is_active other.stage) task task s.tasks h.keys.tasks first active) k
    where
      apart : (other : TaskRow) → (not (is_it other) || is_active other.stage) ≡ true → (b : Bool) → is_it other ≡ b → is_placed other.stage ≡ true → b ≡ false
      apart other a true e p =
          let n : is_placed other.stage ≡ false = active_unplaced other.stage (asked (is_it other) (is_active other.stage) a e) in
          cc
      apart other a false e p = refl

  -- a run that a placed task owned, one still owns
  owned_after : (old : RunRow) → list_any (owns old) s.tasks ≡ true → list_any (owns old) after.tasks ≡ true
  owned_after old k =
      any_change is_it (λ (other : TaskRow). placed task) (λ (other : TaskRow). owns old other && not (is_it other)) (owns old)
      (λ x t m. absurd (true≢false (sym t ∙ not_true (is_it x) (and_second (owns old x) _ m))))
      (λ x t m. and_first _ _ m) s.tasks
      (owned_elsewhere old k)

  -- an unended run still belongs to its task
  belongs_still : (old : RunRow) → belongs s old ≡ true → belongs after old ≡ true
  belongs_still old k =
      under (is_work old.kind && is_unended old.state) (list_any (owns old) after.tasks)
      (λ e. owned_after old (asked (is_work old.kind && is_unended old.state) (list_any (owns old) s.tasks) k e))

  -- the new run is of the placed task
  is_of_task : is_run_of_task task.job task.id run ≡ true
  is_of_task = and_true (same_equiv.refl task.job) (same_equiv.refl task.id)

  -- the placed task owns it
  is_owned : list_any (owns run) after.tasks ≡ true
  is_owned = placed_there (owns run) (and_true is_of_task (is_itself (task.attempt + 1)))

  -- what can be settled still can
  settled_still : (other : TaskRow) → can_be_settled s other ≡ true → can_be_settled after other ≡ true
  settled_still other k =
      kept (not (is_placed other.stage)) (is_busy s other) (is_busy after other) (not (is_undisturbed other)) (is_some (main_ending s other))
      (is_some (main_ending after other))
      (any_append_old _ s.runs run) (ending_kept _ s.runs run _ refl) k
    where
      kept : (a b c d e g : Bool) → (b ≡ true → c ≡ true) → (e ≡ true → g ≡ true) → (((a || b) || d) || e) ≡ true → (((a || c) || d) || g) ≡ true
      kept true b c d e g i j m = refl
      kept false true c d e g i j m = rw (i refl) refl
      kept false false true d e g i j m = refl
      kept false false false true e g i j m = refl
      kept false false false false e g i j m = j m

  -- a run that a placed task owns, it owned before
  owned_before : (old : RunRow) → has_named_task s old ≡ true → list_any (owns old) after.tasks ≡ true → list_any (owns old) s.tasks ≡ true
  owned_before old k =
      any_change_back is_it (λ (other : TaskRow). placed task) (owns old) (owns old)
      (λ x t m. absurd (not_next old.attempt task.attempt (earlier old k (and_first _ _ (and_second true _ m))) (and_second _ _ (and_second true _ m))))
      (λ x t m. m) s.tasks

  -- a run that holds slots held them before
  held_before : (number : ℕ) (old : RunRow) → has_named_task s old ≡ true → (not (holds_on after number old) || holds_on s number old) ≡ true
  held_before number old k =
      under (holds_on after number old) (holds_on s number old) (λ e.
      and_true (and_first (nat_eq old.node number) (list_any (owns old) after.tasks) e)
      (owned_before old k (and_second (nat_eq old.node number) (list_any (owns old) after.tasks) e)))

  -- the new run holds the task's slots on its node, and no other holds more than before
  held_after : (number : ℕ) → held_slots after number ≤ held_slots s number + cond (nat_eq node.number number) task.slots 0
  held_after number =
      rw (
        filter-append (holds_on after number) s.runs (run ∷ []),
        sum_by-append (λ (old : RunRow). old.slots) (filter (holds_on after number) s.runs)
            (filter (holds_on after number) (run ∷ [])),
      )
      (let others : sum_by (λ (old : RunRow). old.slots) (filter (holds_on after number) s.runs) ≤ held_slots s number =
      sum_by-fewer (λ (old : RunRow). old.slots) (holds_on after number) (holds_on s number) s.runs
      (each_weaker (has_named_task s) (λ (old : RunRow). not (holds_on after number old) || holds_on s number old)
      (held_before number) s.runs h.named.tasks_of_runs)
      in
      let new : sum_by (λ (old : RunRow). old.slots) (filter (holds_on after number) (run ∷ [])) ≤ cond (nat_eq node.number number) task.slots 0 =
      at_most (nat_eq node.number number) (list_any (owns run) after.tasks)
      in omega arith)
    where
      at_most : (b c : Bool) → sum_by (λ (old : RunRow). old.slots) (cond (b && c) (run ∷ []) []) ≤ cond b task.slots 0
      at_most true true = omega arith
      at_most true false = omega arith
      at_most false c = omega arith

  -- a run that held slots still holds them
  holds_still : (number : ℕ) (old : RunRow) → (not (holds_on s number old) || holds_on after number old) ≡ true
  holds_still number old =
      under (holds_on s number old) (holds_on after number old) (λ e.
      and_true (and_first (nat_eq old.node number) (list_any (owns old) s.tasks) e)
      (owned_after old (and_second (nat_eq old.node number) (list_any (owns old) s.tasks) e)))

  -- on its node the task's slots are held beside those that were held before
  pub held_more : held_slots after node.number ≡ held_slots s node.number + task.slots
  held_more =
      rw (
        filter-append (holds_on after node.number) s.runs (run ∷ []),
        sum_by-append (λ (old : RunRow). old.slots) (filter (holds_on after node.number) s.runs)
            (filter (holds_on after node.number) (run ∷ [])),
      )
      (let fewer : sum_by (λ (old : RunRow). old.slots) (filter (holds_on after node.number) s.runs) ≤ held_slots s node.number =
      sum_by-fewer (λ (old : RunRow). old.slots) (holds_on after node.number) (holds_on s node.number) s.runs
      (each_weaker (has_named_task s) (λ (old : RunRow). not (holds_on after node.number old) || holds_on s node.number old)
      (held_before node.number) s.runs h.named.tasks_of_runs)
      in
      let more : held_slots s node.number ≤ sum_by (λ (old : RunRow). old.slots) (filter (holds_on after node.number) s.runs) =
      sum_by-fewer (λ (old : RunRow). old.slots) (holds_on s node.number) (holds_on after node.number) s.runs
      (each_any (λ (old : RunRow). not (holds_on s node.number old) || holds_on after node.number old) (holds_still node.number) s.runs)
      in
      let new : sum_by (λ (old : RunRow). old.slots) (filter (holds_on after node.number) (run ∷ [])) ≡ task.slots =
      its_slots (nat_eq node.number node.number) (list_any (owns run) after.tasks) (is_itself node.number) is_owned
      in omega (arith, fewer, more, new))
    where
      its_slots : (b c : Bool) → b ≡ true → c ≡ true → sum_by (λ (old : RunRow). old.slots) (cond (b && c) (run ∷ []) []) ≡ task.slots
      its_slots true true d e = omega arith
      its_slots true false d e = cc
      its_slots false c d e = cc

  -- on the node

  module _ (pool : PoolRow) (in_pool : pool_of s job.pool ≡ Some pool) (first_node : find (λ (other : NodeRow). same_node other node) s.nodes ≡ Some node)
      (of_pool : is_in_pool pool.id node ≡ true) (free_node : nat_le (held_slots s node.number + task.slots) pool.slots ≡ true) where
    -- the pool is the one with its key
    first_pool : find (λ (other : PoolRow). same_pool other pool) s.pools ≡ Some pool
    first_pool = found_first same_pool same_pool_equiv (is_pool job.pool) pool s.pools h.keys.pools in_pool

    -- the new run fits the nodes
    run_fits : fits_nodes s run ≡ true
    run_fits =
        each_with_key same_node same_node_equiv (λ (other : NodeRow). same other.pool node.pool && true) node node s.nodes h.keys.nodes first_node
        (and_true (same_equiv.refl node.pool) refl)

    -- where the new run is, it holds no more than was free
    slots_on_node : (other : NodeRow) → nat_eq node.number other.number ≡ true → same other.pool pool.id ≡ true → has_slots_for after other ≡ true
    slots_on_node other e i =
        each_weaker (λ (each : PoolRow). not (same_pool each pool) || nat_le (held_slots s node.number + task.slots) each.slots)
        (λ (each : PoolRow). not (is_pool other.pool each) || nat_le (held_slots after other.number) each.slots)
        (λ each k.
        under (is_pool other.pool each) (nat_le (held_slots after other.number) each.slots) (λ t.
        room_is_enough (held_slots after other.number) (held_slots s node.number) task.slots each.slots at_most
        (asked (same_pool each pool) (nat_le (held_slots s node.number + task.slots) each.slots) k (same_equiv.congr each.id other.pool pool.id t ∙ i))))
        s.pools (each_with_key same_pool same_pool_equiv
        (λ (each : PoolRow). nat_le (held_slots s node.number + task.slots) each.slots) pool pool s.pools h.keys.pools first_pool free_node)
      where
        at_most : held_slots after other.number ≤ held_slots s node.number + task.slots
        at_most =
            subst (λ n. held_slots after n ≤ held_slots s node.number + task.slots) (equal_numbers node.number other.number e)
            (subst (λ b. held_slots after node.number ≤ held_slots s node.number + cond b task.slots 0) (is_itself node.number) (held_after node.number))

    -- elsewhere nothing changes
    slots_elsewhere : (other : NodeRow) → nat_eq node.number other.number ≡ false → has_slots_for s other ≡ true → has_slots_for after other ≡ true
    slots_elsewhere other e =
        each_weaker (λ (each : PoolRow). not (is_pool other.pool each) || nat_le (held_slots s other.number) each.slots)
        (λ (each : PoolRow). not (is_pool other.pool each) || nat_le (held_slots after other.number) each.slots)
        (λ each k.
        under (is_pool other.pool each) (nat_le (held_slots after other.number) each.slots) (λ t.
        less_is_enough (held_slots after other.number) (held_slots s other.number) each.slots at_most
        (asked (is_pool other.pool each) (nat_le (held_slots s other.number) each.slots) k t)))
        s.pools
      where
        at_most : held_slots after other.number ≤ held_slots s other.number
        at_most =
            let m : held_slots after other.number ≤ held_slots s other.number + 0 = subst
            (λ b. held_slots after other.number ≤ held_slots s other.number + cond b task.slots 0) e (held_after other.number) in omega (arith, m)

    -- the slots of each node suffice
    slots_still : (other : NodeRow) → (not (same_node other node) || same other.pool pool.id) ≡ true → has_slots_for s other ≡ true
        → has_slots_for after other ≡ true
    slots_still other i k = either (nat_eq node.number other.number) refl
      where
        either : (b : Bool) → nat_eq node.number other.number ≡ b → has_slots_for after other ≡ true
        either true e = slots_on_node other e (asked (same_node other node) (same other.pool pool.id) i (same_node_equiv.symm other node ∙ e))
        either false e = slots_elsewhere other e k

    -- a task that is placed keeps tables sound
    pub consistent_placed : IsConsistent seats (placed_with s node task state)
    consistent_placed = record {
      keys = record {
        pools = h.keys.pools;
        nodes = h.keys.nodes;
        jobs = h.keys.jobs;
        tasks = tasks_distinct;
        runs = distinct_append same_run s.runs run h.keys.runs number_is_new;
        preps = h.keys.preps;
        samples = h.keys.samples;
        scales = h.keys.scales;
      };
      numbers = record {
        begun = let b : 0 < s.next_run = h.numbers.begun in omega arith;
        runs =
            each_append (λ (each : RunRow). nat_lt each.number (s.next_run + 1)) s.runs run
            (each_weaker (λ (each : RunRow). nat_lt each.number s.next_run) (λ (each : RunRow). nat_lt each.number (s.next_run + 1))
            (λ each. below_next each.number s.next_run) s.runs h.numbers.runs)
            (below_own_next s.next_run);
        nodes = h.numbers.nodes;
        nodes_of_runs =
            each_append (λ (each : RunRow). nat_lt each.node s.next_node) s.runs run h.numbers.nodes_of_runs
            (each_found (λ (each : NodeRow). nat_lt each.number s.next_node) (λ (each : NodeRow). same_node each node) node s.nodes first_node h.numbers.nodes);
        order = h.numbers.order;
      };
      fitting = record {
        marks = each_change_same is_it (λ (old : TaskRow). placed task) has_fitting_marks (λ x t p. refl) s.tasks h.fitting.marks;
        closing = each_change_same is_it (λ (old : TaskRow). placed task) is_closed_if_completed (λ x t p. placed_unclosed) s.tasks h.fitting.closing;
        attempts =
            each_change is_it (λ (old : TaskRow). placed task)
            (λ (each : TaskRow). nat_lt each.attempt s.next_run) (λ (each : TaskRow). nat_lt each.attempt (s.next_run + 1))
            (λ x t p. next_below task.attempt s.next_run
            (each_found (λ (each : TaskRow). nat_lt each.attempt s.next_run) test task s.tasks f h.fitting.attempts))
            (λ x t. below_next x.attempt s.next_run) s.tasks h.fitting.attempts;
      };
      named = record {
        jobs_of_tasks =
            each_change_same is_it (λ (old : TaskRow). placed task) (λ (each : TaskRow). has_job_row s each.job)
            (λ x t p. has_job) s.tasks h.named.jobs_of_tasks;
        jobs_of_runs = each_append (has_named_job s) s.runs run h.named.jobs_of_runs has_job;
        tasks_of_runs =
            each_append (has_named_task after) s.runs run (each_weaker (has_named_task s) (has_named_task after) named_kept s.runs h.named.tasks_of_runs)
            (placed_there (is_task_of_attempt run) (and_true is_of_task (is_at_most_itself (task.attempt + 1))));
        main_runs = distinct_append are_one_attempt s.runs run h.named.main_runs is_first_run;
      };
      seated = record {
        distinct = h.seated.distinct;
        in_range = h.seated.in_range;
        few = h.seated.few;
        pools_of_nodes = h.seated.pools_of_nodes;
        nodes_of_runs =
            each_append (has_node_while_unended s) s.runs run h.seated.nodes_of_runs
            (or_second (not (is_unended state)) (any_found (is_node node.number) (λ (each : NodeRow). same_node each node) node s.nodes first_node (is_itself node.number)));
      };
      belonging = each_append (belongs after) s.runs run (each_weaker (belongs s) (belongs after) belongs_still s.runs h.belonging)
          (or_second (not (is_work TaskRun && is_unended state)) is_owned);
      ending =
          each_change is_it (λ (old : TaskRow). placed task) (can_be_settled s) (can_be_settled after)
          (λ x t p. or_first _ (or_first _ (new_run_present s node task state going))) (λ x t. settled_still x) s.tasks h.ending;
      naming = record {
        on_nodes = each_append (fits_nodes s) s.runs run h.naming.on_nodes run_fits;
        of_jobs = each_append names_no_task s.runs run h.naming.of_jobs refl;
      };
      slots =
          each_of_two (λ (other : NodeRow). not (same_node other node) || same other.pool pool.id) (has_slots_for s) (has_slots_for after) slots_still s.nodes
          (each_with_key same_node same_node_equiv (λ (other : NodeRow). same other.pool pool.id) node node s.nodes h.keys.nodes first_node
          of_pool)
          h.slots;
      built = record {
        runs = each_append (λ (each : RunRow). not (is_coordination each.kind && is_unended each.state)) s.runs run h.built.runs refl;
      };
    }
      where
        has_job : has_job_row s task.job ≡ true
        has_job = each_found (λ (each : TaskRow). has_job_row s each.job) test task s.tasks f h.named.jobs_of_tasks

        number_is_new : list_any (λ (each : RunRow). same_run each run) s.runs ≡ false
        number_is_new =
            none_any (λ (each : RunRow). same_run each run) s.runs
            (each_weaker (λ (each : RunRow). nat_lt each.number s.next_run) (λ (each : RunRow). not (same_run each run))
            (λ each l. true_not (below_other each.number s.next_run l)) s.runs h.numbers.runs)
