-- Numbers that rise along a list.
use Rattle.std.proofs.Common.{◌≡◌, ◌≢◌, ℕ, suc, ◌+◌, ◌<◌, false, ◌||◌, List, [], ◌∷◌, length, map, get_or, set, nat_eq, refl, ap, sym, ◌∙◌, subst, arith}
use Rattle.std.proofs.Common.{get_or-set_other, get_or-set_same}
use Rattle.std.specs.List.{list_any}
use Rattle.std.proofs.lemmas.Bool.{ne_eqb}
use mathlib.Core.Logic.{dite}
use native.Mathlib.Decide.{ℕ_discrete}
use Rattle.bt_rows.specs.Lists.{AreDistinct}

module _ {A : Type 0} (f : A → ℕ) where
  -- the numbers of the elements before this place are below a bound
  abbrev pub AreBelow : List A → ℕ → ℕ → Type 0
  AreBelow xs i bound = (k : ℕ) (d : A) → k < i → f (get_or xs k d) < bound

  -- the numbers of the elements before this place rise
  abbrev pub Rise : List A → ℕ → Type 0
  Rise xs i = (j k : ℕ) (d : A) → j < k → k < i → f (get_or xs j d) < f (get_or xs k d)

  module _ (xs : List A) (i : ℕ) (y : A) (inside : i < length xs) (old new : ℕ) (is : f y ≡ old) (below : AreBelow xs i old) where
    -- the number of the element that is put at this place
    put : (d : A) → f (get_or (set xs i y) i d) ≡ old
    put d = ap f (get_or-set_same xs i y d inside) ∙ is

    -- the number of an element before it
    kept : (k : ℕ) (d : A) → k < i → f (get_or (set xs i y) k d) ≡ f (get_or xs k d)
    kept k d lt = let ne : k ≢ i = (λ (s : k ≡ i). omega arith) in ap f (get_or-set_other xs i k y d ne)

    pub below_more : old < new → AreBelow (set xs i y) (i + 1) new
    below_more above k d lt = dite (ℕ_discrete k i)
        (λ (s : k ≡ i). subst (λ (z : ℕ). f (get_or (set xs i y) z d) < new) (sym s) (subst (λ (z : ℕ). z < new) (sym (put d)) above))
        (λ (ne : k ≢ i). let before : k < i = omega arith in let less = below k d before in
        subst (λ (z : ℕ). z < new) (sym (kept k d before)) (omega arith))

    pub rise_more : Rise xs i → Rise (set xs i y) (i + 1)
    rise_more rise j k d less lt = dite (ℕ_discrete k i)
        (λ (s : k ≡ i). let before : j < i = omega arith in
        subst (λ (z : ℕ). f (get_or (set xs i y) j d) < f (get_or (set xs i y) z d)) (sym s)
        (subst (λ (z : ℕ). f (get_or (set xs i y) j d) < z) (sym (put d))
        (subst (λ (z : ℕ). z < old) (sym (kept j d before)) (below j d before))))
        (λ (ne : k ≢ i). let before : k < i = omega arith in let first : j < i = omega arith in
        subst (λ (z : ℕ). f (get_or (set xs i y) j d) < z) (sym (kept k d before))
        (subst (λ (z : ℕ). z < f (get_or xs k d)) (sym (kept j d first)) (rise j k d less before)))

  -- a number is none of those that it is below
  none_same : (n : ℕ) (xs : List A) → ((k : ℕ) (d : A) → k < length xs → n < f (get_or xs k d)) → list_any (nat_eq n) (map f xs) ≡ false
  none_same n [] above = refl
  none_same n (x ∷ xs) above = let first = above 0 x (omega arith) in
      ap (λ b. b || list_any (nat_eq n) (map f xs)) (ne_eqb n (f x) (λ (s : n ≡ f x). omega arith))
      ∙ none_same n xs (λ k d lt. above (suc k) d (omega arith))

  -- numbers that rise are distinct
  pub rising_distinct : (xs : List A) → Rise xs (length xs) → AreDistinct nat_eq (map f xs)
  rising_distinct [] rise = tt
  rising_distinct (x ∷ xs) rise = (
    none_same (f x) xs (λ k d lt. rise 0 (suc k) d (omega arith) (omega arith)),
    rising_distinct xs (λ j k d less lt. rise (suc j) (suc k) d (omega arith) (omega arith)),
  )
