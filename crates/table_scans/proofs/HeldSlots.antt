-- A node holds slots exactly if a placed task has a run with slots on it.
use Rattle.std.proofs.Common.{◌≡◌, ℕ, ◌+◌, Bool, true, false, ◌&&◌, ◌||◌, List, [], ◌∷◌, cond, refl, sym, ◌∙◌, ap, sum_by, filter, arith}
use Rattle.std.specs.Prelude.{nat_lt, nat_eq}
use Rattle.std.specs.List.{list_any}
use Rattle.std.proofs.lemmas.List.Sums.{sum_by-cons}
use Rattle.std.proofs.lemmas.Bool.Decides.{nat_tests}
use Rattle.batch_model.specs.Runs.{is_present}
use Rattle.batch_model.specs.Slots.{holds_on, held_slots}
use Rattle.batch_model.specs.Tasks.{is_placed}
use Rattle.batch_model.specs.Variants.{State, TaskRow, RunRow}
use Rattle.table_scans.specs.Holding.{has_slots, is_holder}

and_true : (a : Bool) → (a && true) ≡ a
and_true true = refl
and_true false = refl

and_false : (a : Bool) → (a && false) ≡ false
and_false true = refl
and_false false = refl

or_swap : (a b c d : Bool) → ((a || b) || (c || d)) ≡ ((a || c) || (b || d))
or_swap true b c d = refl
or_swap false true true d = refl
or_swap false true false d = refl
or_swap false false c d = refl

positive_sum : (a b : ℕ) → nat_lt 0 (a + b) ≡ (nat_lt 0 a || nat_lt 0 b)
positive_sum a b = grind (arith, nat_tests)

module _ {X : Type 0} where
  -- none passes a test that always fails
  none : (p : X → Bool) (xs : List X) → list_any (λ x. p x && false) xs ≡ false
  none p [] = refl
  none p (x ∷ xs) = ap (λ b. b || list_any (λ y. p y && false) xs) (and_false (p x)) ∙ none p xs

  empty_any : (xs : List X) → list_any (λ (x : X). false) xs ≡ false
  empty_any [] = refl
  empty_any (x ∷ xs) = empty_any xs

  and_any : (a : Bool) (p : X → Bool) (xs : List X) → list_any (λ x. a && p x) xs ≡ (a && list_any p xs)
  and_any true p xs = refl
  and_any false p xs = empty_any xs

  or_any : (p q : X → Bool) (xs : List X) → list_any (λ x. p x || q x) xs ≡ (list_any p xs || list_any q xs)
  or_any p q [] = refl
  or_any p q (x ∷ xs) = ap (λ r. (p x || q x) || r) (or_any p q xs) ∙ or_swap (p x) (q x) (list_any p xs) (list_any q xs)

  pub agree : (p q : X → Bool) → ((x : X) → p x ≡ q x) → (xs : List X) → list_any p xs ≡ list_any q xs
  agree p q same [] = refl
  agree p q same (x ∷ xs) = ap (λ b. b || list_any p xs) (same x) ∙ ap (λ r. q x || r) (agree p q same xs)

  -- one part of a test moves in front of the others
  regroup : (e l : Bool) (p q : X → Bool) (xs : List X) → ((e && list_any (λ x. p x && q x) xs) && l) ≡ list_any (λ x. p x && (e && (l && q x))) xs
  regroup true true p q xs = and_true (list_any (λ x. p x && q x) xs)
  regroup true false p q xs = and_false (list_any (λ x. p x && q x) xs) ∙ sym (none p xs)
  regroup false l p q xs = sym (none p xs)

  positive_cons : (f : X → ℕ) (x : X) (rest : List X) (r b : Bool) → nat_lt 0 (sum_by f rest) ≡ r → nat_lt 0 (sum_by f (cond b (x ∷ rest) rest)) ≡ ((b && nat_lt 0 (f x)) || r)
  positive_cons f x rest r true h = rw (sum_by-cons f x rest, positive_sum (f x) (sum_by f rest)) (ap (λ c. nat_lt 0 (f x) || c) h)
  positive_cons f x rest r false h = h

  -- a sum is positive if one of its parts is
  pub positive : (f : X → ℕ) (p : X → Bool) (xs : List X) → nat_lt 0 (sum_by f (filter p xs)) ≡ list_any (λ x. p x && nat_lt 0 (f x)) xs
  positive f p [] = refl
  positive f p (x ∷ xs) = positive_cons f x (filter p xs) (list_any (λ y. p y && nat_lt 0 (f y)) xs) (p x) (positive f p xs)

module _ {X Y : Type 0} where
  swap : (f : X → Y → Bool) (xs : List X) (ys : List Y) → list_any (λ x. list_any (f x) ys) xs ≡ list_any (λ y. list_any (λ x. f x y) xs) ys
  swap f [] ys = sym (empty_any ys)
  swap f (x ∷ xs) ys = ap (λ r. list_any (f x) ys || r) (swap f xs ys) ∙ sym (or_any (f x) (λ y. list_any (λ z. f z y) xs) ys)

pub held_any : (s : State) (node : ℕ) → nat_lt 0 (held_slots s node) ≡ list_any (is_holder s.runs node) s.tasks
held_any s node =
    positive (λ (run : RunRow). run.slots) (holds_on s node) s.runs
    ∙ agree (λ run. holds_on s node run && nat_lt 0 run.slots) (λ run. list_any (λ task. is_placed task.stage && has_slots node task run) s.tasks) (λ run. regroup (nat_eq run.node node) (nat_lt 0 run.slots) (λ (task : TaskRow). is_placed task.stage) (λ (task : TaskRow). is_present task run) s.tasks) s.runs
    ∙ swap (λ run task. is_placed task.stage && has_slots node task run) s.runs s.tasks
    ∙ agree (λ task. list_any (λ run. is_placed task.stage && has_slots node task run) s.runs) (is_holder s.runs node) (λ task. and_any (is_placed task.stage) (has_slots node task) s.runs) s.tasks
