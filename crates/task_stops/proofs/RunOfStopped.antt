-- The task of a run is the one with the ids that the run names.
use Rattle.std.proofs.Common.{◌≡◌, ℕ, Bool, true, false, not, ◌&&◌, ◌||◌, List, [], ◌∷◌, Option, Some, None, find, cond, nat_eq, refl, ◌∙◌, subst}
use Rattle.std.specs.List.{list_any}
use Rattle.std.specs.Option.{option_map_or}
use Rattle.bt_base.specs.Ids.{same}
use Rattle.bt_base.proofs.SameIds.{same_equiv}
use Rattle.bt_rows.specs.Lists.{AreDistinct}
use Rattle.bt_rows.specs.Keys.{task_has_ids, same_task}
use Rattle.batch_model.specs.Finding.{names}
use Rattle.batch_model.specs.Runs.{is_present}
use Rattle.batch_model.specs.Stops.{is_stopped, is_run_of_stopped}
use Rattle.batch_model.specs.Variants.{State, TaskRow, RunRow}
use Rattle.task_stops.specs.StopChanges.{stopped_test}
use Rattle.model_lists.proofs.Tests.{and_first, and_second}
use Rattle.model_lists.proofs.RowLists.{none_weaker, none_any, each_any}

module _ {R : Type 0} (same_row : R → R → Bool) (p has : R → Bool) (only : (x : R) → p x ≡ true → has x ≡ true)
    (key : (x y : R) → has x ≡ true → has y ≡ true → same_row x y ≡ true) where
  -- a row without the key does not pass
  not_without : (x : R) (b : Bool) → p x ≡ b → has x ≡ false → b ≡ false
  not_without x true i h = let j : has x ≡ true = only x i in cc
  not_without x false i h = refl

  first_or : (x : R) (xs : List R) (b : Bool) → has x ≡ b → list_any (same_row x) xs ≡ false → list_any p xs ≡ option_map_or p (find has xs) false
      → (p x || list_any p xs) ≡ option_map_or p (cond b (Some x) (find has xs)) false
  first_or x xs true i d ih =
      let none : list_any p xs ≡ false = none_weaker (same_row x) p (λ y q. key x y i (only y q)) xs d in
      rw none (or_none (p x))
    where
      or_none : (b : Bool) → (b || false) ≡ b
      or_none true = refl
      or_none false = refl
  first_or x xs false i d ih = rw (not_without x (p x) refl i) ih

  -- of rows with distinct keys only the one with the key can pass
  pub any_of_found : (xs : List R) → AreDistinct same_row xs → list_any p xs ≡ option_map_or p (find has xs) false
  any_of_found [] d = refl
  any_of_found (x ∷ xs) d = first_or x xs (has x) refl d.0 (any_of_found xs d.1)

named_only : (test : TaskRow → Bool) (run : RunRow) (job id : List ℕ) → run.job ≡ Some job → run.task ≡ Some id → (task : TaskRow) → stopped_test test run task ≡ true → task_has_ids job id task ≡ true
named_only test run job id j i task h =
    let present = and_second (is_stopped test task) (is_present task run) h in
    let both = and_first (names run.job task.job && names run.task task.id) (nat_eq run.attempt task.attempt) present in
    let first : names run.job task.job ≡ true = and_first (names run.job task.job) (names run.task task.id) both in
    let second : names run.task task.id ≡ true = and_second (names run.job task.job) (names run.task task.id) both in
    let a : same job task.job ≡ true = subst (λ (name : Option (List ℕ)). names name task.job ≡ true) j first in
    let b : same id task.id ≡ true = subst (λ (name : Option (List ℕ)). names name task.id ≡ true) i second in
    rw (same_equiv.symm task.job job ∙ a, same_equiv.symm task.id id ∙ b) refl

same_named : (job id : List ℕ) (x y : TaskRow) → task_has_ids job id x ≡ true → task_has_ids job id y ≡ true → same_task x y ≡ true
same_named job id x y h k =
    let xj : same x.job job ≡ true = and_first (same x.job job) (same x.id id) h in
    let xi : same x.id id ≡ true = and_second (same x.job job) (same x.id id) h in
    let yj : same y.job job ≡ true = and_first (same y.job job) (same y.id id) k in
    let yi : same y.id id ≡ true = and_second (same y.job job) (same y.id id) k in
    rw (same_equiv.congr x.job job y.job xj, same_equiv.symm job y.job ∙ yj, same_equiv.congr x.id id y.id xi, same_equiv.symm id y.id ∙ yi) refl

-- the run's task alone can be stopped with it
pub stopped_found : (test : TaskRow → Bool) (s : State) (run : RunRow) (job id : List ℕ) → run.job ≡ Some job → run.task ≡ Some id → AreDistinct same_task s.tasks
    → is_run_of_stopped test s run ≡ option_map_or (stopped_test test run) (find (task_has_ids job id) s.tasks) false
stopped_found test s run job id j i d =
    any_of_found same_task (stopped_test test run) (task_has_ids job id) (named_only test run job id j i) (same_named job id) s.tasks d

and_none : (a b : Bool) → b ≡ false → (a && b) ≡ false
and_none true b h = h
and_none false b h = refl

-- a run that names no job, or no task, has none

pub none_without_job : (test : TaskRow → Bool) (s : State) (run : RunRow) → run.job ≡ None → is_run_of_stopped test s run ≡ false
none_without_job test s run j =
    none_any (stopped_test test run) s.tasks
    (each_any (λ task. not (stopped_test test run task)) (λ task. rw (and_none (is_stopped test task) (is_present task run) (rw j refl)) refl) s.tasks)

pub none_without_task : (test : TaskRow → Bool) (s : State) (run : RunRow) → run.task ≡ None → is_run_of_stopped test s run ≡ false
none_without_task test s run i =
    none_any (stopped_test test run) s.tasks
    (each_any (λ task. not (stopped_test test run task)) (λ task. rw (and_none (is_stopped test task) (is_present task run) (present_none task)) refl) s.tasks)
  where
    by : (a b : Bool) → ((a && false) && b) ≡ false
    by true b = refl
    by false b = refl

    present_none : (task : TaskRow) → is_present task run ≡ false
    present_none task = rw i (by (names run.job task.job) (nat_eq run.attempt task.attempt))
