-- Lists whose elements a loop changes one by one.
use Rattle.std.proofs.Common.{◌≡◌, ◌≢◌, ℕ, zero, suc, ◌+◌, ◌<◌, ◌≤◌, List, [], ◌∷◌, length, map, take, ◌++◌, get_or, set, refl, ap, sym, ◌∙◌, subst, arith}
use Rattle.std.proofs.Common.{get_or-set_other, get_or-set_same}
use mathlib.Core.Logic.{dite}
use native.Mathlib.Decide.{ℕ_discrete}

module _ {A : Type 0} where
  -- what is found in a list does not depend on what stands for nothing
  pub get_or_any : (xs : List A) (k : ℕ) (d e : A) → k < length xs → get_or xs k d ≡ get_or xs k e
  get_or_any [] k d e lt = absurd (omega arith)
  get_or_any (x ∷ xs) zero d e lt = refl
  get_or_any (x ∷ xs) (suc k) d e lt = get_or_any xs k d e (omega arith)

  module _ (r : A → A → Type 0) (xs ys : List A) (i : ℕ) (x y : A) (inside : i < length ys) (rest : (k : ℕ) (d : A) → i ≤ k
      → get_or ys k d ≡ get_or xs k d) (is : x ≡ get_or ys i x) where
    -- the element that the loop has come to
    pub here : (d : A) → get_or xs i d ≡ x
    here d = sym (rest i d (omega arith)) ∙ (get_or_any ys i d x inside ∙ sym is)

    -- the elements so far, and this one, stand in the relation
    pub done_more : r x y → ((k : ℕ) (d : A) → k < i → r (get_or xs k d) (get_or ys k d)) → (k : ℕ) (d : A) → k < i + 1
        → r (get_or xs k d) (get_or (set ys i y) k d)
    done_more e done k d lt = dite (ℕ_discrete k i)
        (λ (s : k ≡ i). subst (λ (z : ℕ). r (get_or xs z d) (get_or (set ys i y) z d)) (sym s)
        (subst (λ z. r z (get_or (set ys i y) i d)) (sym (here d)) (subst (r x) (sym (get_or-set_same ys i y d inside)) e)))
        (λ (ne : k ≢ i). subst (r (get_or xs k d)) (sym (get_or-set_other ys i k y d ne)) (done k d (omega arith)))

    -- the elements after it are as they were
    pub rest_less : (k : ℕ) (d : A) → i + 1 ≤ k → get_or (set ys i y) k d ≡ get_or xs k d
    rest_less k d le = let ne : k ≢ i = (λ (s : k ≡ i). omega arith) in get_or-set_other ys i k y d ne ∙ rest k d (omega arith)

-- the images of the elements so far, and of one more
map_suc : {A B : Type 0} (f : A → B) (xs : List A) (i : ℕ) (d : A) → i < length xs → map f (take (suc i) xs) ≡ map f (take i xs) ++ f (get_or xs i d) ∷ []
map_suc f [] i d lt = absurd (omega arith)
map_suc f (x ∷ xs) zero d lt = refl
map_suc f (x ∷ xs) (suc i) d lt = ap (λ ys. f x ∷ ys) (map_suc f xs i d (omega arith))

pub map_more : {A B : Type 0} (f : A → B) (xs : List A) (i : ℕ) (d : A) → i < length xs → map f (take (i + 1) xs) ≡ map f (take i xs) ++ f (get_or xs i d) ∷ []
map_more f xs i d lt = let next : suc i ≡ i + 1 = omega arith in
    subst (λ (n : ℕ). map f (take n xs) ≡ map f (take i xs) ++ f (get_or xs i d) ∷ []) next (map_suc f xs i d lt)
