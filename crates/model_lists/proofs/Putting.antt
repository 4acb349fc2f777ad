-- Puts of rows are what the definitions say of the rows.
use Rattle.std.proofs.Common.{◌≡◌, Bool, true, false, ◌||◌, List, [], ◌∷◌, ◌++◌, Some, None, cond, refl, sym, ◌∙◌, ap}
use Rattle.std.specs.List.{list_any, find}
use Rattle.std.specs.Cmp.{IsEquivalence}
use Rattle.bt_rows.specs.Lists.{put_row, AreDistinct}
use Rattle.batch_model.specs.Finding.{change_where}

module _ {R : Type 0} where
  new_cons : (t : R → Bool) (row old : R) (rest : List R) (b : Bool) → (b || list_any t rest) ≡ false
      → (list_any t rest ≡ false → put_row t row rest ≡ rest ++ row ∷ []) → cond b (row ∷ rest) (old ∷ put_row t row rest) ≡ old ∷ (rest ++ row ∷ [])
  new_cons t row old rest true h ih = cc
  new_cons t row old rest false h ih = ap (λ rows. old ∷ rows) (ih h)

  -- a row whose key no row has goes last
  pub put_row-new : (t : R → Bool) (row : R) (xs : List R) → list_any t xs ≡ false → put_row t row xs ≡ xs ++ row ∷ []
  put_row-new t row [] h = refl
  put_row-new t row (old ∷ rest) h = new_cons t row old rest (t old) h (put_row-new t row rest)

  none_cons : (t : R → Bool) (x : R) (rest : List R) (b : Bool) → t x ≡ b → cond b (Some x) (find t rest) ≡ None
      → (find t rest ≡ None → list_any t rest ≡ false) → (b || list_any t rest) ≡ false
  none_cons t x rest true e h ih = cc
  none_cons t x rest false e h ih = ih h

  -- a search that finds nothing
  pub any-not_found : (t : R → Bool) (xs : List R) → find t xs ≡ None → list_any t xs ≡ false
  any-not_found t [] h = refl
  any-not_found t (x ∷ xs) h = none_cons t x xs (t x) refl h (any-not_found t xs)

  unchanged_cons : (t : R → Bool) (f : R → R) (x : R) (rest : List R) (b : Bool) → (b || list_any t rest) ≡ false
      → (list_any t rest ≡ false → change_where t f rest ≡ rest) → cond b (f x) x ∷ change_where t f rest ≡ x ∷ rest
  unchanged_cons t f x rest true h ih = cc
  unchanged_cons t f x rest false h ih = ap (λ rows. x ∷ rows) (ih h)

  -- no row passes, so none is changed
  pub change_where-none : (t : R → Bool) (f : R → R) (xs : List R) → list_any t xs ≡ false → change_where t f xs ≡ xs
  change_where-none t f [] h = refl
  change_where-none t f (x ∷ xs) h = unchanged_cons t f x xs (t x) h (change_where-none t f xs)

  any_agree : (p q : R → Bool) → ((x : R) → p x ≡ q x) → (xs : List R) → list_any p xs ≡ list_any q xs
  any_agree p q agree [] = refl
  any_agree p q agree (x ∷ xs) = rw (agree x, any_agree p q agree xs)

module _ {R : Type 0} (same : R → R → Bool) (e : IsEquivalence same) (t : R → Bool) (f : R → R) (r : R) (tests : (x : R) → t x ≡ same x r)
    (keeps : (x : R) → same x (f r) ≡ same x r) where
  found_cons : (x : R) (rest : List R) (b : Bool) → t x ≡ b → list_any (same x) rest ≡ false → cond b (Some x) (find t rest) ≡ Some r
      → (find t rest ≡ Some r → put_row (λ y. same y (f r)) (f r) rest ≡ change_where t f rest)
      → cond b (f r ∷ rest) (x ∷ put_row (λ y. same y (f r)) (f r) rest) ≡ cond b (f x) x ∷ change_where t f rest
  found_cons x rest true s d h ih =
      let i : x ≡ r = cc in
      let none : list_any t rest ≡ false = any_agree t (same x) (λ y. tests y ∙ e.symm y r ∙ ap (λ z. same z y) (sym i)) rest ∙ d in
      rw (i, change_where-none t f rest none) refl
  found_cons x rest false s d h ih = ap (λ rows. x ∷ rows) (ih h)

  -- the put of a changed row is the change of the rows with its key, where keys are distinct
  pub put_row-found : (xs : List R) → AreDistinct same xs → find t xs ≡ Some r → put_row (λ y. same y (f r)) (f r) xs ≡ change_where t f xs
  put_row-found [] d h = cc
  put_row-found (x ∷ xs) d h =
      rw (keeps x, ← tests x) (found_cons x xs (t x) refl d.0 h (put_row-found xs d.1))
