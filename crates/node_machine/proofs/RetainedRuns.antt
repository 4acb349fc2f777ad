-- Whether a run is retained is asked of the task that it names alone.
use Rattle.std.proofs.Common.{◌≡◌, ℕ, Bool, true, false, not, ◌&&◌, ◌||◌, List, [], ◌∷◌, Some, find, cond, refl, sym, ◌∙◌}
use Rattle.std.specs.List.{list_any}
use Rattle.std.specs.Option.{option_map_or}
use Rattle.bt_rows.specs.Keys.{same_task}
use Rattle.bt_rows.specs.Lists.{AreDistinct}
use Rattle.batch_model.specs.Dues.{is_retained_by}
use Rattle.batch_model.specs.Events.{is_task_of_run}
use Rattle.batch_model.specs.Finding.{has_passed}
use Rattle.batch_model.specs.Variants.{TaskRow, RunRow}
use Rattle.model_lists.proofs.RowLists.{none_weaker}
use Rattle.model_lists.proofs.Tests.{and_first}
use Rattle.node_machine.proofs.TakePuts.{one_task}

module _ {R : Type 0} (same_row : R → R → Bool) (has also : R → Bool) (key : (x y : R) → has x ≡ true → has y ≡ true → same_row x y ≡ true) where
  -- a row has the key, and passes
  abbrev both : R → Bool
  both x = has x && also x

  first_or : (x : R) (xs : List R) (b : Bool) → has x ≡ b → list_any (same_row x) xs ≡ false → list_any both xs ≡ option_map_or also (find has xs) false
      → (b && also x || list_any both xs) ≡ option_map_or also (cond b (Some x) (find has xs)) false
  first_or x xs true i d ih =
      let none : list_any both xs ≡ false = none_weaker (same_row x) both (λ y q. key x y i (and_first (has y) (also y) q)) xs d in
      rw none (or_none (also x))
    where
      or_none : (b : Bool) → (b || false) ≡ b
      or_none true = refl
      or_none false = refl
  first_or x xs false i d ih = ih

  -- of rows with distinct keys only the one with the key can pass
  both_of_found : (xs : List R) → AreDistinct same_row xs → list_any both xs ≡ option_map_or also (find has xs) false
  both_of_found [] d = refl
  both_of_found (x ∷ xs) d = first_or x xs (has x) refl d.0 (both_of_found xs d.1)

-- the task retains what ended then
abbrev pub retains : ℕ → ℕ → TaskRow → Bool
retains now at task = not (has_passed at task.retention now)

pub retained_found : (now : ℕ) (run : RunRow) (at : ℕ) (tasks : List TaskRow) → AreDistinct same_task tasks
    → list_any (is_retained_by now run at) tasks ≡ option_map_or (retains now at) (find (is_task_of_run run) tasks) false
retained_found now run at tasks d =
    both_of_found same_task (is_task_of_run run) (retains now at) (λ x y h k. sym (one_task run y x k) ∙ h) tasks d
