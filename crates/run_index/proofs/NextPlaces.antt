-- The parts of tables that are followed place by place.
use Rattle.std.proofs.Common.{◌≡◌, ℕ, suc, ◌+◌, ◌<◌, List, [], ◌∷◌, ◌++◌, length, take, Option, Some, None, sym, ap, subst, ◌∙◌, arith}
use Rattle.std.proofs.Math.Seq.{take-suc}
use Rattle.kept_table.specs.Slots.{slot_at}
use Rattle.kept_table.proofs.PlacesOf.{slot_at_get}
use Rattle.batch_model.specs.Variants.{TaskRow, RunRow}
use Rattle.run_index.specs.Held.{SumsView, kept_sum, run_held, is_owned, IsCounted, HasHeld, HasKeys}
use Rattle.run_index.proofs.ChangedSlots.{none_there, slot_push_same}
use Rattle.run_index.proofs.FreePlaces.{free_push, rows_none}
use Rattle.run_index.proofs.HeldSums.{run_added}

-- one place more
pub take_next : {R : Type 0} (slots : List (Option R)) (place : ℕ) → place < length slots → take (place + 1) slots ≡ take place slots ++ slot_at slots place ∷ []
take_next {R} slots place within =
    let next : place + 1 ≡ suc place = omega arith in
    ap (λ (n : ℕ). take n slots) next ∙ take-suc slots place None within ∙ ap (λ (slot : Option R). take place slots ++ slot ∷ []) (sym (slot_at_get slots place None within))

-- what holds with the slot at the place holds with one place more
pub at_next : {R : Type 0} (P : List (Option R) → Type 0) (slots : List (Option R)) (place : ℕ) (slot : Option R) → place < length slots → slot ≡ slot_at slots place
    → P (take place slots ++ slot ∷ []) → P (take (place + 1) slots)
at_next {R} P slots place slot within is h =
    subst P (sym (take_next slots place within)) (subst (λ (s : Option R). P (take place slots ++ s ∷ [])) is h)

-- one place more, without a run
pub held_none : (sums : SumsView) (tasks : List TaskRow) (slots : List (Option RunRow)) → HasHeld sums tasks slots → HasHeld sums tasks (slots ++ None ∷ [])
held_none sums tasks slots held = record {
  held = λ node. rw (rows_none slots) (held.held node);
  counted = λ place run there. held.counted place run (none_there slots place run there);
}

-- the slots of the run at the next place were added
pub held_next : (old new : SumsView) (tasks : List TaskRow) (slots : List (Option RunRow)) (run : RunRow)
    → ((node : ℕ) → kept_sum new node ≡ kept_sum old node + run_held (is_owned tasks) node run) → HasKeys old new → IsCounted new run
    → HasHeld old tasks slots → HasHeld new tasks (slots ++ Some run ∷ [])
held_next old new tasks slots run sums keys counts held =
    run_added old new tasks (slots ++ Some run ∷ []) (length slots) run (slot_push_same slots (Some run)) sums keys counts
    (subst (HasHeld old tasks) (sym (free_push slots (Some run))) (held_none old tasks slots held))
