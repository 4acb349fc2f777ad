-- Tests that agree, and rows that are found.
use Rattle.std.proofs.Common.{◌≡◌, ℕ, ◌+◌, Bool, true, false, ◌||◌, cond, List, [], ◌∷◌, filter, count_by, Option, Some, None, refl, arith}
use Rattle.std.specs.Prelude.{nat_lt}
use Rattle.std.specs.List.{list_any, list_all, find}
use Rattle.std.proofs.lemmas.Grind.{common_steps}
use Rattle.std.proofs.lemmas.List.Sums.{sum_by-cons}

some_counted : (b : Bool) (n : ℕ) (a : Bool) → nat_lt 0 n ≡ a → nat_lt 0 (cond b 1 0 + n) ≡ (b || a)
some_counted true n a h = grind (arith, common_steps)
some_counted false n a h = grind (arith, common_steps)

module _ {X : Type 0} where
  -- some are counted exactly if there is one
  pub any_counted : (p : X → Bool) → (xs : List X) → nat_lt 0 (count_by p xs) ≡ list_any p xs
  any_counted p [] = refl
  any_counted p (x ∷ xs) = rw (sum_by-cons (λ y. cond (p y) 1 0) x xs) (some_counted (p x) (count_by p xs) (list_any p xs) (any_counted p xs))

  module _ (p q : X → Bool) (agree : (x : X) → p x ≡ q x) where
    pub all_alike : (xs : List X) → list_all p xs ≡ list_all q xs
    all_alike [] = refl
    all_alike (x ∷ xs) = rw (agree x, all_alike xs) refl

    pub any_alike : (xs : List X) → list_any p xs ≡ list_any q xs
    any_alike [] = refl
    any_alike (x ∷ xs) = rw (agree x, any_alike xs) refl

    pub filter_alike : (xs : List X) → filter p xs ≡ filter q xs
    filter_alike [] = refl
    filter_alike (x ∷ xs) = rw (agree x, filter_alike xs) refl

    pub count_alike : (xs : List X) → count_by p xs ≡ count_by q xs
    count_alike [] = refl
    count_alike (x ∷ xs) =
        rw (sum_by-cons (λ y. cond {A = ℕ} (p y) 1 0) x xs, sum_by-cons (λ y. cond {A = ℕ} (q y) 1 0) x xs, agree x, count_alike xs) refl

  missed_here : (b : Bool) (x : X) (o : Option X) (r : Bool) → cond b (Some x) o ≡ None → (o ≡ None → r ≡ false) → (b || r) ≡ false
  missed_here true x o r h ih = cc
  missed_here false x o r h ih = ih h

  -- no row passes if none is found
  pub any_missed : (p : X → Bool) (xs : List X) → find p xs ≡ None → list_any p xs ≡ false
  any_missed p [] h = refl
  any_missed p (x ∷ xs) h = missed_here (p x) x (find p xs) (list_any p xs) h (any_missed p xs)

  found_here : (b : Bool) (x y : X) (o : Option X) (r : Bool) → cond b (Some x) o ≡ Some y → (o ≡ Some y → r ≡ true) → (b || r) ≡ true
  found_here true x y o r h ih = refl
  found_here false x y o r h ih = ih h

  -- some row passes if one is found
  pub any_found : (p : X → Bool) (y : X) (xs : List X) → find p xs ≡ Some y → list_any p xs ≡ true
  any_found p y [] h = cc
  any_found p y (x ∷ xs) h = found_here (p x) x y (find p xs) (list_any p xs) h (any_found p y xs)
