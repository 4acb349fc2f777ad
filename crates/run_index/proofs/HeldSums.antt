-- Sums of the slots that runs hold.
use Rattle.std.proofs.Common.{◌≡◌, ℕ, zero, suc, ◌+◌, ◌*◌, ◌<◌, ◌≤◌, Bool, true, false, cond, ◌&&◌, nat_eq, List, [], ◌∷◌, length, ◌^◌, set, filter, sum_by, Option, Some, None, is_some, refl, sym, ap, subst, ◌∙◌, ⊎_elim, arith}
use Rattle.std.proofs.lemmas.Bool.{cases_Bool, cond-true, cond-false}
use Rattle.std.proofs.lemmas.Bool.Decides.{nat_tests}
use Rattle.std.proofs.lemmas.List.Sums.{sum_by-cons}
use Rattle.kept_table.specs.Slots.{slot_at, rows}
use Rattle.text_chains.specs.Places.{value_of}
use Rattle.text_chains.specs.Chains.{ChainsView, places_of}
use Rattle.text_chains.proofs.Covered.{sums_covered}
use Rattle.batch_model.specs.Runs.{is_present}
use Rattle.batch_model.specs.Slots.{holds_on, held_slots}
use Rattle.batch_model.specs.Tasks.{is_placed}
use Rattle.batch_model.specs.Variants.{State, TaskRow, RunRow}
use Rattle.run_index.specs.Attempts.{HasRuns, present_text}
use Rattle.run_index.specs.Held.{SumsView, kept_sum, sum_at, run_held, task_held, is_owned, IsCounted, AreCounted, HasHeld, if_node, HasKeys}
use Rattle.std.specs.Option.{unwrap_or}
use Rattle.std.proofs.lemmas.Bool.{cases_eq}
use Rattle.run_index.proofs.ChangedSlots.{freed, slot_set_other}
use Rattle.run_index.proofs.AttemptTexts.{present_run_text}

module _ {R : Type 0} (f : R → ℕ) where
  -- one row beside the others
  pub sum_free : (slots : List (Option R)) (at : ℕ) → sum_by f (rows slots) ≡ value_of f (slot_at slots at) + sum_by f (rows (set slots at None))
  sum_free [] at = refl
  sum_free (None ∷ slots) zero = omega arith
  sum_free (Some row ∷ slots) zero = sum_by-cons f row (rows slots)
  sum_free (None ∷ slots) (suc at) = sum_free slots at
  sum_free (Some row ∷ slots) (suc at) =
      let a = sum_by-cons f row (rows slots) in
      let b = sum_by-cons f row (rows (set slots at None)) in
      let c = sum_free slots at in
      omega (arith, a, b, c)

  pub sum_zero : (xs : List R) → ((x : R) → f x ≡ 0) → sum_by f xs ≡ 0
  sum_zero [] h = refl
  sum_zero (x ∷ xs) h =
      let a = sum_by-cons f x xs in
      let b = h x in
      let c = sum_zero xs h in
      omega (arith, a, b, c)

  pub sum_add : (g h : R → ℕ) (xs : List R) → ((x : R) → f x ≡ g x + h x) → sum_by f xs ≡ sum_by g xs + sum_by h xs
  sum_add g h [] e = refl
  sum_add g h (x ∷ xs) e =
      let a = sum_by-cons f x xs in
      let b = sum_by-cons g x xs in
      let c = sum_by-cons h x xs in
      let d = sum_add g h xs e in
      let i = e x in
      omega (arith, a, b, c, d, i)

  pub sum_filter : (p : R → Bool) (xs : List R) → sum_by (λ x. cond (p x) (f x) 0) xs ≡ sum_by f (filter p xs)
  sum_filter p [] = refl
  sum_filter p (x ∷ xs) =
      ⊎_elim
      (λ (e : p x ≡ true).
      sum_by-cons (λ y. cond (p y) (f y) 0) x xs ∙ ap (λ (n : ℕ). n + sum_by (λ y. cond (p y) (f y) 0) xs) (cond-true (p x) (f x) 0 e)
      ∙ ap (λ (n : ℕ). f x + n) (sum_filter p xs) ∙ sym (sum_by-cons f x (filter p xs))
      ∙ ap (sum_by f) (sym (cond-true (p x) (x ∷ filter p xs) (filter p xs) e)))
      (λ (e : p x ≡ false).
      sum_by-cons (λ y. cond (p y) (f y) 0) x xs ∙ ap (λ (n : ℕ). n + sum_by (λ y. cond (p y) (f y) 0) xs) (cond-false (p x) (f x) 0 e)
      ∙ zero_first (sum_by (λ y. cond (p y) (f y) 0) xs) ∙ sum_filter p xs
      ∙ ap (sum_by f) (sym (cond-false (p x) (x ∷ filter p xs) (filter p xs) e)))
      (cases_Bool (p x))
    where
      zero_first : (n : ℕ) → 0 + n ≡ n
      zero_first n = omega arith

-- what the run holds, if it passes
and_true_if : (a b : Bool) (n : ℕ) → b ≡ true → cond (a && b) n 0 ≡ cond a n 0
and_true_if true true n e = refl
and_true_if false true n e = refl
and_true_if a false n e = absurd (cc)

and_false_if : (a b : Bool) (n : ℕ) → b ≡ false → cond (a && b) n 0 ≡ 0
and_false_if true false n e = refl
and_false_if false false n e = refl
and_false_if a true n e = absurd (cc)

pub held_if : (test : RunRow → Bool) (node : ℕ) (run : RunRow) → test run ≡ true → run_held test node run ≡ if_node run.node run.slots node
held_if test node run e = and_true_if (nat_eq run.node node) (test run) run.slots e

pub held_not : (test : RunRow → Bool) (node : ℕ) (run : RunRow) → test run ≡ false → run_held test node run ≡ 0
held_not test node run e = and_false_if (nat_eq run.node node) (test run) run.slots e

same_number : (n : ℕ) → nat_eq n n ≡ true
same_number n = grind (arith, nat_tests)

pub held_own : (test : RunRow → Bool) (run : RunRow) → test run ≡ true → run_held test run.node run ≡ run.slots
held_own test run e = held_if test run.node run e ∙ cond-true (nat_eq run.node run.node) run.slots 0 (same_number run.node)

positive_and : (a b : Bool) (n : ℕ) → 0 < cond (a && b) n 0 → b ≡ true
positive_and true true n l = refl
positive_and false true n l = refl
positive_and true false n l = absurd (omega arith)
positive_and false false n l = absurd (omega arith)

-- the sum over the places of the task's attempt is that over all runs
pub present_sum : (view : ChainsView) (slots : List (Option RunRow)) (task : TaskRow) (node : ℕ) → HasRuns view slots
    → sum_by (λ place. value_of (run_held (is_present task) node) (slot_at slots place)) (places_of view (present_text task))
    ≡ sum_by (run_held (is_present task) node) (rows slots)
present_sum view slots task node runs =
    sums_covered (run_held (is_present task) node) slots (places_of view (present_text task)) (runs.distinct (present_text task))
    (λ place run is more.
    runs.has place run (present_text task) is (present_run_text task run (positive_and (nat_eq run.node node) (is_present task run) run.slots more)))

-- what a task's runs hold
pub placed_held : (runs : List RunRow) (node : ℕ) (task : TaskRow) → is_placed task.stage ≡ true
    → task_held runs node task ≡ sum_by (run_held (is_present task) node) runs
placed_held runs node task e = ap (λ (b : Bool). sum_by (run_held (λ run. b && is_present task run) node) runs) e

pub unplaced_held : (runs : List RunRow) (node : ℕ) (task : TaskRow) → is_placed task.stage ≡ false → task_held runs node task ≡ 0
unplaced_held runs node task e =
    ap (λ (b : Bool). sum_by (run_held (λ run. b && is_present task run) node) runs) e
    ∙ sum_zero (run_held (λ run. false) node) runs (λ run. held_not (λ run. false) node run refl)

-- bounds of a sum
held_byte : (test : RunRow → Bool) (node : ℕ) (run : RunRow) → run.slots < 256 → run_held test node run < 256
held_byte test node run l =
    ⊎_elim
    (λ (e : (nat_eq run.node node && test run) ≡ true). let is = cond-true (nat_eq run.node node && test run) run.slots 0 e in omega (arith, is, l))
    (λ (e : (nat_eq run.node node && test run) ≡ false). let is = cond-false (nat_eq run.node node && test run) run.slots 0 e in omega (arith, is))
    (cases_Bool (nat_eq run.node node && test run))

pub sum_bound : (test : RunRow → Bool) (node : ℕ) (slots : List (Option RunRow))
    → ((place : ℕ) (run : RunRow) → slot_at slots place ≡ Some run → run.slots < 256) → sum_by (run_held test node) (rows slots) ≤ 256 * length slots
sum_bound test node [] h = omega arith
sum_bound test node (None ∷ slots) h = let l = sum_bound test node slots (λ place run is. h (suc place) run is) in omega (arith, l)
sum_bound test node (Some run ∷ slots) h =
    let l = sum_bound test node slots (λ place other is. h (suc place) other is) in
    let a = sum_by-cons (run_held test node) run (rows slots) in
    let b = held_byte test node run (h 0 run refl) in
    omega (arith, l, a, b)

-- the nodes of the runs stay
pub counted_kept : (old new : SumsView) (slots : List (Option RunRow)) → HasKeys old new → AreCounted old slots → AreCounted new slots
counted_kept old new slots kept counted = λ place run is.
    let c = counted place run is in record { key = kept.keys run.node c.key; byte = c.byte }

-- the slots held on a node
pub held_of : (s : State) (node : ℕ) → sum_by (run_held (is_owned s.tasks) node) s.runs ≡ held_slots s node
held_of s node = sum_filter (λ (run : RunRow). run.slots) (holds_on s node) s.runs

-- a run was removed
pub counted_without : (view : SumsView) (slots : List (Option RunRow)) (at : ℕ) → AreCounted view slots → AreCounted view (set slots at None)
counted_without view slots at counted = λ place run is. counted place run (freed slots at place run is)

-- a run was put
pub counted_with : (view : SumsView) (slots : List (Option RunRow)) (at : ℕ) (run : RunRow) → slot_at slots at ≡ Some run → IsCounted view run
    → AreCounted view (set slots at None) → AreCounted view slots
counted_with view slots at run there counts counted = λ place other is.
    ⊎_elim
    (λ (e : place ≡ at).
    let same : Some other ≡ Some run = sym is ∙ ap (slot_at slots) e ∙ there in
    let one : other ≡ run = cc in
    subst (IsCounted view) (sym one) counts)
    (λ (e : place ≡ at → ⊥). counted place other (slot_set_other slots at place None e ∙ is))
    (cases_eq place at)

pub run_released : (old new : SumsView) (tasks : List TaskRow) (slots : List (Option RunRow)) (at : ℕ) (run : RunRow) → slot_at slots at ≡ Some run
    → ((node : ℕ) → kept_sum new node + run_held (is_owned tasks) node run ≡ kept_sum old node) → HasKeys old new → HasHeld old tasks slots
    → HasHeld new tasks (set slots at None)
run_released old new tasks slots at run there sums keys held = record {
  held = λ node.
      let a = sums node in
      let b = held.held node in
      let c = sum_free (run_held (is_owned tasks) node) slots at in
      let d = ap (value_of (run_held (is_owned tasks) node)) there in
      omega (arith, a, b, c, d);
  counted = counted_without new slots at (counted_kept old new slots keys held.counted);
}

pub run_enough : (view : SumsView) (tasks : List TaskRow) (slots : List (Option RunRow)) (at : ℕ) (run : RunRow) → slot_at slots at ≡ Some run
    → is_owned tasks run ≡ true → HasHeld view tasks slots → run.slots ≤ kept_sum view run.node
run_enough view tasks slots at run there owned held =
    let b = held.held run.node in
    let c = sum_free (run_held (is_owned tasks) run.node) slots at in
    let d = ap (value_of (run_held (is_owned tasks) run.node)) there in
    let e = held_own (is_owned tasks) run owned in
    omega (arith, b, c, d, e)

pub run_added : (old new : SumsView) (tasks : List TaskRow) (slots : List (Option RunRow)) (at : ℕ) (run : RunRow) → slot_at slots at ≡ Some run
    → ((node : ℕ) → kept_sum new node ≡ kept_sum old node + run_held (is_owned tasks) node run) → HasKeys old new → IsCounted new run
    → HasHeld old tasks (set slots at None) → HasHeld new tasks slots
run_added old new tasks slots at run there sums keys counts held = record {
  held = λ node.
      let a = sums node in
      let b = held.held node in
      let c = sum_free (run_held (is_owned tasks) node) slots at in
      let d = ap (value_of (run_held (is_owned tasks) node)) there in
      omega (arith, a, b, c, d);
  counted = counted_with new slots at run there counts (counted_kept old new (set slots at None) keys held.counted);
}

-- no sum is too great
pub held_small : (view : SumsView) (tasks : List TaskRow) (slots : List (Option RunRow)) (node : ℕ) → length slots < 2 ^ 64 → HasHeld view tasks slots
    → kept_sum view node < 2 ^ 80
held_small view tasks slots node few held =
    let a = held.held node in
    let b = sum_bound (is_owned tasks) node slots (λ place run is. (held.counted place run is).byte) in
    omega (arith, a, b, few)

-- the rows are those of other slots
pub held_rows : (view : SumsView) (tasks others : List TaskRow) (slots : List (Option RunRow)) → tasks ≡ others → HasHeld view tasks slots → HasHeld view others slots
held_rows view tasks others slots e held = subst (λ (ts : List TaskRow). HasHeld view ts slots) e held

-- with other room
pub held_kept : (old new : SumsView) (tasks : List TaskRow) (slots : List (Option RunRow)) → ((node : ℕ) → sum_at new node ≡ sum_at old node)
    → HasHeld old tasks slots → HasHeld new tasks slots
held_kept old new tasks slots same held = record {
  held = λ node. ap (λ (o : Option ℕ). unwrap_or o 0) (same node) ∙ held.held node;
  counted = λ place run is.
      let c = held.counted place run is in record { key = ap (λ (o : Option ℕ). is_some o) (same run.node) ∙ c.key; byte = c.byte };
}
