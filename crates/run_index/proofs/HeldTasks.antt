-- The slots that are held after a change of a task.
use Rattle.std.proofs.Common.{◌≡◌, ℕ, zero, suc, ◌+◌, ◌<◌, ◌≤◌, Bool, true, false, cond, ◌&&◌, ◌||◌, nat_eq, List, [], ◌∷◌, length, ◌^◌, set, sum_by, Option, Some, None, refl, sym, ap, ◌∙◌, ⊎_elim, arith}
use Rattle.std.specs.List.{list_any}
use Rattle.std.proofs.lemmas.Bool.{cases_Bool, cases_eq}
use Rattle.kept_table.specs.Slots.{slot_at, rows, holds, AreApart}
use Rattle.bt_rows.specs.Texts.{task_text}
use Rattle.batch_model.specs.Runs.{is_present}
use Rattle.batch_model.specs.Slots.{owns}
use Rattle.batch_model.specs.Tasks.{is_placed}
use Rattle.batch_model.specs.Variants.{TaskRow, RunRow}
use Rattle.run_index.specs.Held.{SumsView, kept_sum, run_held, task_held, is_owned, AreCounted, HasHeld}
use Rattle.run_index.specs.Named.{place_of_run}
use Rattle.run_index.proofs.AttemptTexts.{both}
use Rattle.run_index.proofs.ChangedSlots.{slot_set_other}
use Rattle.run_index.proofs.HeldSums.{sum_add, sum_bound}
use Rattle.run_index.proofs.NamedPlaces.{named_place}

or_first : (a b x y : Bool) → x ≡ (a || y) → (b || x) ≡ (a || (b || y))
or_first true true x y h = refl
or_first true false x y h = h
or_first false true x y h = refl
or_first false false x y h = h

or_none : (a b : Bool) → b ≡ false → (a || b) ≡ a
or_none true b e = refl
or_none false b e = e

module _ {R : Type 0} where
  pub free_here : (slots : List (Option R)) (at : ℕ) → slot_at (set slots at None) at ≡ None
  free_here [] at = refl
  free_here (slot ∷ slots) zero = refl
  free_here (slot ∷ slots) (suc at) = free_here slots at

  -- a free place that is cleared
  pub rows_free : (slots : List (Option R)) (at : ℕ) → slot_at slots at ≡ None → rows (set slots at None) ≡ rows slots
  rows_free [] at e = refl
  rows_free (None ∷ slots) zero e = refl
  rows_free (Some row ∷ slots) zero e = absurd (cc)
  rows_free (None ∷ slots) (suc at) e = rows_free slots at e
  rows_free (Some row ∷ slots) (suc at) e = ap (λ (rs : List R). row ∷ rs) (rows_free slots at e)

  pub set_free : (slots : List (Option R)) (at : ℕ) → slot_at slots at ≡ None → set slots at None ≡ slots
  set_free [] at e = refl
  set_free (slot ∷ slots) zero e = ap (λ (s : Option R). s ∷ slots) (sym e)
  set_free (slot ∷ slots) (suc at) e = ap (λ (rest : List (Option R)). slot ∷ rest) (set_free slots at e)

  module _ (test : R → Bool) where
    any_free : (slots : List (Option R)) (at : ℕ) → list_any test (rows slots) ≡ (holds test (slot_at slots at) || list_any test (rows (set slots at None)))
    any_free [] at = refl
    any_free (None ∷ slots) zero = refl
    any_free (Some row ∷ slots) zero = refl
    any_free (None ∷ slots) (suc at) = any_free slots at
    any_free (Some row ∷ slots) (suc at) =
        or_first (holds test (slot_at slots at)) (test row) (list_any test (rows slots)) (list_any test (rows (set slots at None))) (any_free slots at)

    none_any : (slots : List (Option R)) → ((place : ℕ) → holds test (slot_at slots place) ≡ false) → list_any test (rows slots) ≡ false
    none_any [] h = refl
    none_any (None ∷ slots) h = none_any slots (λ place. h (suc place))
    none_any (Some row ∷ slots) h = ap (λ (b : Bool). b || list_any test (rows slots)) (h 0) ∙ none_any slots (λ place. h (suc place))

-- a task that owns the run is where the run's task is found
owner_place : (slots : List (Option TaskRow)) (run : RunRow) (place : ℕ) → AreApart task_text slots → holds (owns run) (slot_at slots place) ≡ true
    → place_of_run slots (Some run) ≡ Some place
owner_place slots run place apart h = by (slot_at slots place) refl h
  where
    by : (slot : Option TaskRow) → slot_at slots place ≡ slot → holds (owns run) slot ≡ true → place_of_run slots (Some run) ≡ Some place
    by None e p = absurd (cc)
    by (Some task) e p = named_place slots place task run apart e (both (is_placed task.stage) (is_present task run) p).1

-- no other task owns the run
others_none : (slots : List (Option TaskRow)) (run : RunRow) (at : ℕ) → AreApart task_text slots
    → ((place : ℕ) → place_of_run slots (Some run) ≡ Some place → place ≡ at) → is_owned (rows (set slots at None)) run ≡ false
others_none slots run at apart only =
    none_any (owns run) (set slots at None)
    (λ place.
    ⊎_elim
    (λ (e : place ≡ at). ap (holds (owns run)) (ap (slot_at (set slots at None)) e ∙ free_here slots at))
    (λ (e : place ≡ at → ⊥).
    ap (holds (owns run)) (slot_set_other slots at place None e)
    ∙ ⊎_elim
    (λ (h : holds (owns run) (slot_at slots place) ≡ true). absurd (e (only place (owner_place slots run place apart h))))
    (λ (h : holds (owns run) (slot_at slots place) ≡ false). h)
    (cases_Bool (holds (owns run) (slot_at slots place))))
    (cases_eq place at))

some_place : (a b : ℕ) (o : Option ℕ) → o ≡ Some a → o ≡ Some b → b ≡ a
some_place a b o e f = cc

-- the run's task is the one that owns it
pub owned_at : (slots : List (Option TaskRow)) (run : RunRow) (place : ℕ) → AreApart task_text slots → place_of_run slots (Some run) ≡ Some place
    → is_owned (rows slots) run ≡ holds (owns run) (slot_at slots place)
owned_at slots run place apart e =
    any_free (owns run) slots place
    ∙ or_none (holds (owns run) (slot_at slots place)) (is_owned (rows (set slots place None)) run)
    (others_none slots run place apart (λ other f. some_place place other (place_of_run slots (Some run)) e f))

pub owned_none : (slots : List (Option TaskRow)) (run : RunRow) → AreApart task_text slots → place_of_run slots (Some run) ≡ None → is_owned (rows slots) run ≡ false
owned_none slots run apart e =
    none_any (owns run) slots
    (λ place.
    ⊎_elim
    (λ (h : holds (owns run) (slot_at slots place) ≡ true).
    let no : None ≡ Some place = sym e ∙ owner_place slots run place apart h in absurd (cc))
    (λ (h : holds (owns run) (slot_at slots place) ≡ false). h)
    (cases_Bool (holds (owns run) (slot_at slots place))))

either_sum : (k a b c : Bool) (n : ℕ) → c ≡ (a || b) → (a ≡ true → b ≡ false) → cond (k && c) n 0 ≡ cond (k && a) n 0 + cond (k && b) n 0
either_sum true true true c n e h = let no = h refl in absurd (cc)
either_sum true true false c n e h = ap (λ (b : Bool). cond b n 0) e ∙ omega arith
either_sum true false true c n e h = ap (λ (b : Bool). cond b n 0) e ∙ omega arith
either_sum true false false c n e h = ap (λ (b : Bool). cond b n 0) e ∙ omega arith
either_sum false a b c n e h = omega arith

-- what the runs hold of the task at a place, and of the others
pub task_sum : (slots : List (Option TaskRow)) (place : ℕ) (task : TaskRow) (runs : List RunRow) (node : ℕ) → AreApart task_text slots
    → slot_at slots place ≡ Some task
    → sum_by (run_held (is_owned (rows slots)) node) runs ≡ task_held runs node task + sum_by (run_held (is_owned (rows (set slots place None))) node) runs
task_sum slots place task runs node apart there =
    sum_add (run_held (is_owned (rows slots)) node) (run_held (λ run. owns run task) node) (run_held (is_owned (rows (set slots place None))) node) runs
    (λ run.
    either_sum (nat_eq run.node node) (owns run task) (is_owned (rows (set slots place None)) run) (is_owned (rows slots) run) run.slots
    (any_free (owns run) slots place ∙ ap (λ (slot : Option TaskRow). holds (owns run) slot || is_owned (rows (set slots place None)) run) there)
    (λ e.
    let here = owner_place slots run place apart (ap (holds (owns run)) there ∙ e) in
    others_none slots run place apart (λ other f. some_place place other (place_of_run slots (Some run)) here f)))

-- the slots of the task at a place were given back
pub task_released : (old new : SumsView) (tasks : List (Option TaskRow)) (place : ℕ) (task : TaskRow) (slots : List (Option RunRow)) → AreApart task_text tasks
    → slot_at tasks place ≡ Some task → ((node : ℕ) → kept_sum new node + task_held (rows slots) node task ≡ kept_sum old node) → AreCounted new slots
    → HasHeld old (rows tasks) slots → HasHeld new (rows (set tasks place None)) slots
task_released old new tasks place task slots apart there sums counted held = record {
  held = λ node.
      let a = sums node in
      let b = held.held node in
      let c = task_sum tasks place task (rows slots) node apart there in
      omega (arith, a, b, c);
  counted = counted;
}

pub task_enough : (view : SumsView) (tasks : List (Option TaskRow)) (place : ℕ) (task : TaskRow) (slots : List (Option RunRow)) (node : ℕ) → AreApart task_text tasks
    → slot_at tasks place ≡ Some task → HasHeld view (rows tasks) slots → task_held (rows slots) node task ≤ kept_sum view node
task_enough view tasks place task slots node apart there held =
    let b = held.held node in
    let c = task_sum tasks place task (rows slots) node apart there in
    omega (arith, b, c)

-- the slots of the task at a place were added
pub task_added : (old new : SumsView) (tasks : List (Option TaskRow)) (place : ℕ) (task : TaskRow) (slots : List (Option RunRow)) → AreApart task_text tasks
    → slot_at tasks place ≡ Some task → ((node : ℕ) → kept_sum new node ≡ kept_sum old node + task_held (rows slots) node task) → AreCounted new slots
    → HasHeld old (rows (set tasks place None)) slots → HasHeld new (rows tasks) slots
task_added old new tasks place task slots apart there sums counted held = record {
  held = λ node.
      let a = sums node in
      let b = held.held node in
      let c = task_sum tasks place task (rows slots) node apart there in
      omega (arith, a, b, c);
  counted = counted;
}

pub task_small : (view : SumsView) (tasks : List (Option TaskRow)) (place : ℕ) (task : TaskRow) (slots : List (Option RunRow)) (node : ℕ) → AreApart task_text tasks
    → slot_at tasks place ≡ Some task → length slots < 2 ^ 64 → HasHeld view (rows (set tasks place None)) slots
    → kept_sum view node + task_held (rows slots) node task < 2 ^ 128
task_small view tasks place task slots node apart there few held =
    let b = held.held node in
    let c = task_sum tasks place task (rows slots) node apart there in
    let d = sum_bound (is_owned (rows tasks)) node slots (λ at run is. (held.counted at run is).byte) in
    omega (arith, b, c, d, few)
