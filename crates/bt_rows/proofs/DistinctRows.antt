-- Keys stay distinct, and sums over rows change by the rows that change.
use Rattle.std.proofs.Common.{◌≡◌, ℕ, ◌+◌, ◌<◌, ◌≤◌, Bool, true, false, ◌||◌, List, [], ◌∷◌, Some, cond, sum_by, refl, sym, ◌∙◌, ap, subst, arith}
use Rattle.std.specs.List.{list_any, find}
use Rattle.std.specs.Cmp.{IsEquivalence}
use Rattle.std.proofs.lemmas.Grind.{common_steps}
use Rattle.std.proofs.lemmas.List.Sums.{sum_by-cons, sum_by-le-sum_by}
use Rattle.bt_rows.specs.Lists.{put_row, AreDistinct}

module _ {R : Type 0} (same : R → R → Bool) (e : IsEquivalence same) where
  -- if no row passes a test, none does after a put of a row that does not pass either
  any_cons : (p : R → Bool) (row old : R) (rest : List R) (b : Bool) → p row ≡ false → (p old || list_any p rest) ≡ false → (list_any p rest ≡ false → list_any p (put_row (λ x. same x row) row rest) ≡ false) → list_any p (cond b (row ∷ rest) (old ∷ put_row (λ x. same x row) row rest)) ≡ false
  any_cons p row old rest true h k ih = grind (arith, common_steps)
  any_cons p row old rest false h k ih = grind (arith, common_steps)

  pub any-put : (p : R → Bool) (row : R) (xs : List R) → p row ≡ false → list_any p xs ≡ false → list_any p (put_row (λ x. same x row) row xs) ≡ false
  any-put p row [] h k = grind (arith, common_steps)
  any-put p row (old ∷ rest) h k = any_cons p row old rest (same old row) h k (any-put p row rest h)

  any_agree : (p q : R → Bool) → ((x : R) → p x ≡ q x) → (xs : List R) → list_any p xs ≡ list_any q xs
  any_agree p q agree [] = refl
  any_agree p q agree (x ∷ xs) = rw (agree x, any_agree p q agree xs)

  -- rows with the same key agree on which others have it
  any_same : (a b : R) (xs : List R) → same a b ≡ true → list_any (same a) xs ≡ false → list_any (same b) xs ≡ false
  any_same a b xs s h = any_agree (same b) (same a) (λ x. sym (e.congr a b x s)) xs ∙ h

  distinct_cons : (row old : R) (rest : List R) (b : Bool) → same old row ≡ b → list_any (same old) rest ≡ false → AreDistinct same rest → AreDistinct same (put_row (λ x. same x row) row rest) → AreDistinct same (cond b (row ∷ rest) (old ∷ put_row (λ x. same x row) row rest))
  distinct_cons row old rest true s h d ih = (any_same old row rest s h, d)
  distinct_cons row old rest false s h d ih = (any-put (same old) row rest s h, ih)

  pub distinct-put : (row : R) (xs : List R) → AreDistinct same xs → AreDistinct same (put_row (λ x. same x row) row xs)
  distinct-put row [] d = (refl, tt)
  distinct-put row (old ∷ rest) d = distinct_cons row old rest (same old row) refl d.0 d.1 (distinct-put row rest d.1)

  -- a row that a search finds is the first with its key
  found_cons : (p : R → Bool) (x row : R) (rest : List R) (b c : Bool) → same x row ≡ b → list_any (same x) rest ≡ false → cond c (Some x) (find p rest) ≡ Some row → (find p rest ≡ Some row → find (λ y. same y row) rest ≡ Some row) → (find p rest ≡ Some row → list_any (same x) rest ≡ false → same x row ≡ false) → cond b (Some x) (find (λ y. same y row) rest) ≡ Some row
  found_cons p x row rest true true s d h ih apart = h
  found_cons p x row rest true false s d h ih apart = let f : same x row ≡ false = apart h d in cc
  found_cons p x row rest false true s d h ih apart = let r : same x x ≡ true = e.refl x in let i : x ≡ row = cc in let k : same x x ≡ false = subst (λ y. same x y ≡ false) (sym i) s in cc
  found_cons p x row rest false false s d h ih apart = ih h

  apart_cons : (p : R → Bool) (a x row : R) (rest : List R) (c : Bool) → cond c (Some x) (find p rest) ≡ Some row → (same a x || list_any (same a) rest) ≡ false → (find p rest ≡ Some row → list_any (same a) rest ≡ false → same a row ≡ false) → same a row ≡ false
  apart_cons p a x row rest true h d ih = let i : x ≡ row = cc in subst (λ y. same a y ≡ false) i (grind (arith, common_steps))
  apart_cons p a x row rest false h d ih = ih h (grind (arith, common_steps))

  apart : (p : R → Bool) (a row : R) (xs : List R) → find p xs ≡ Some row → list_any (same a) xs ≡ false → same a row ≡ false
  apart p a row [] h d = cc
  apart p a row (x ∷ xs) h d = apart_cons p a x row xs (p x) h d (apart p a row xs)

  pub found_first : (p : R → Bool) (row : R) (xs : List R) → AreDistinct same xs → find p xs ≡ Some row → find (λ y. same y row) xs ≡ Some row
  found_first p row [] d h = cc
  found_first p row (x ∷ xs) d h = found_cons p x row xs (same x row) (p x) refl d.0 h (found_first p row xs d.1) (apart p x row xs)

sum_later : (a b c d e : ℕ) → a + d ≡ b + e → (c + a) + d ≡ (c + b) + e
sum_later a b c d e h = omega arith

module _ {R : Type 0} (f : R → ℕ) (p : R → Bool) where
  sum_cons : (row old x : R) (rest : List R) (b : Bool) → cond b (Some x) (find p rest) ≡ Some old → (find p rest ≡ Some old → sum_by f (put_row p row rest) + f old ≡ sum_by f rest + f row) → sum_by f (cond b (row ∷ rest) (x ∷ put_row p row rest)) + f old ≡ sum_by f (x ∷ rest) + f row
  sum_cons row old x rest true h ih =
      let i : x ≡ old = cc in
      let k : f x ≡ f old = ap f i in
      rw (sum_by-cons f row rest, sum_by-cons f x rest) (omega arith)
  sum_cons row old x rest false h ih =
      rw (sum_by-cons f x (put_row p row rest), sum_by-cons f x rest)
      (sum_later (sum_by f (put_row p row rest)) (sum_by f rest) (f x) (f old) (f row) (ih h))

  -- a put changes the sum by the difference of the new row and the one that it replaces
  pub sum_by-put : (row old : R) (xs : List R) → find p xs ≡ Some old → sum_by f (put_row p row xs) + f old ≡ sum_by f xs + f row
  sum_by-put row old [] h = cc
  sum_by-put row old (x ∷ xs) h = sum_cons row old x xs (p x) h (sum_by-put row old xs)

-- a row that a search finds passes its test
passes_cons : {R : Type 0} (p : R → Bool) (x row : R) (rest : List R) (b : Bool) → p x ≡ b → cond b (Some x) (find p rest) ≡ Some row → (find p rest ≡ Some row → p row ≡ true) → p row ≡ true
passes_cons p x row rest true e h ih = let i : x ≡ row = cc in subst (λ y. p y ≡ true) i e
passes_cons p x row rest false e h ih = ih h

pub find-passes : {R : Type 0} (p : R → Bool) (row : R) (xs : List R) → find p xs ≡ Some row → p row ≡ true
find-passes p row [] h = cc
find-passes p row (x ∷ xs) h = passes_cons p x row xs (p x) refl h (find-passes p row xs)

module _ {R : Type 0} (f g : R → ℕ) (p : R → Bool) where
  less_cons : (x row : R) (rest : List R) (b : Bool) → cond b (Some x) (find p rest) ≡ Some row → ((y : R) → f y ≤ g y) → f row < g row → (find p rest ≡ Some row → sum_by f rest < sum_by g rest) → sum_by f (x ∷ rest) < sum_by g (x ∷ rest)
  less_cons x row rest true h each less ih =
      let i : x ≡ row = cc in
      let k : f x < g x = subst (λ y. f y < g y) (sym i) less in
      let m : sum_by f rest ≤ sum_by g rest = sum_by-le-sum_by f g rest each in
      rw (sum_by-cons f x rest, sum_by-cons g x rest) (omega arith)
  less_cons x row rest false h each less ih =
      let m : sum_by f rest < sum_by g rest = ih h in
      let k : f x ≤ g x = each x in
      rw (sum_by-cons f x rest, sum_by-cons g x rest) (omega arith)

  -- a sum is less if no part is greater and that of a row that is found is less
  pub sum_by-less : (row : R) (xs : List R) → find p xs ≡ Some row → ((y : R) → f y ≤ g y) → f row < g row → sum_by f xs < sum_by g xs
  sum_by-less row [] h each less = cc
  sum_by-less row (x ∷ xs) h each less = less_cons x row xs (p x) h each less (λ e. sum_by-less row xs e each less)
