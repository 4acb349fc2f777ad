-- Rows that all change by a function: what holds of each, of some and of pairs, and what they sum to.
use Rattle.std.proofs.Common.{◌≡◌, ℕ, ◌+◌, ◌≤◌, Bool, true, false, List, [], ◌∷◌, map, filter, Some, cond, sum_by, refl, sym, ◌∙◌, ap, subst, arith}
use Rattle.std.specs.List.{list_any, find}
use Rattle.std.specs.Cmp.{IsEquivalence}
use Rattle.std.proofs.lemmas.List.Folds.{list_all-map}
use Rattle.std.proofs.lemmas.List.Sums.{sum_by-cons}
use Rattle.bt_rows.specs.Lists.{AreDistinct}
use Rattle.batch_model.specs.Finding.{Each}
use Rattle.model_lists.proofs.Tests.{or_false, or_false_first, or_false_second}
use Rattle.model_lists.proofs.RowLists.{each_weaker, none_weaker, any_found}

module _ {R : Type 0} (change : R → R) where
  -- each changed row passes
  pub each_map : (p q : R → Bool) → ((x : R) → p x ≡ true → q (change x) ≡ true) → (xs : List R) → Each p xs → Each q (map change xs)
  each_map p q give xs h = list_all-map q change xs ∙ each_weaker p (λ x. q (change x)) give xs h

  -- some changed row passes
  pub any_map : (p : R → Bool) (xs : List R) → list_any p (map change xs) ≡ list_any (λ x. p (change x)) xs
  any_map p [] = refl
  any_map p (x ∷ xs) = rw (any_map p xs) refl

  -- no later changed row is like the first
  none_map : (r q : R → R → Bool) → ((x y : R) → r x y ≡ false → q (change x) (change y) ≡ false) → (x : R) (xs : List R) → list_any (r x) xs ≡ false
      → list_any (q (change x)) (map change xs) ≡ false
  none_map r q give x [] h = refl
  none_map r q give x (y ∷ ys) h =
      or_false (give x y (or_false_first (r x y) (list_any (r x) ys) h)) (none_map r q give x ys (or_false_second (r x y) (list_any (r x) ys) h))

  -- no two changed rows are alike
  pub distinct_map : (r q : R → R → Bool) → ((x y : R) → r x y ≡ false → q (change x) (change y) ≡ false) → (xs : List R) → AreDistinct r xs
      → AreDistinct q (map change xs)
  distinct_map r q give [] h = tt
  distinct_map r q give (x ∷ xs) h = (none_map r q give x xs h.0, distinct_map r q give xs h.1)

  -- the sum over the changed rows that pass
  pub sum_map : (weight : R → ℕ) (p : R → Bool) (xs : List R)
      → sum_by weight (filter p (map change xs)) ≡ sum_by (λ x. weight (change x)) (filter (λ x. p (change x)) xs)
  sum_map weight p [] = refl
  sum_map weight p (x ∷ xs) = sum_first weight p x xs (p (change x)) (sum_map weight p xs)
    where
      sum_first : (weight : R → ℕ) (p : R → Bool) (x : R) (xs : List R) (b : Bool)
          → sum_by weight (filter p (map change xs)) ≡ sum_by (λ y. weight (change y)) (filter (λ y. p (change y)) xs)
          → sum_by weight (cond b (change x ∷ filter p (map change xs)) (filter p (map change xs))) ≡ sum_by (λ y. weight (change y))
          (cond b (x ∷ filter (λ y. p (change y)) xs) (filter (λ y. p (change y)) xs))
      sum_first weight p x xs true h =
          sum_by-cons weight (change x) (filter p (map change xs)) ∙ ap (λ (k : ℕ). weight (change x) + k) h ∙ sym
          (sum_by-cons (λ y. weight (change y)) x (filter (λ y. p (change y)) xs))
      sum_first weight p x xs false h = h

module _ {R : Type 0} where
  -- the first row and the others
  less_cons : (weight : R → ℕ) (p q : R → Bool) (x : R) (xs : List R) (a b : Bool) → (b ≡ true → a ≡ true)
      → sum_by weight (filter q xs) ≤ sum_by weight (filter p xs)
      → sum_by weight (cond b (x ∷ filter q xs) (filter q xs)) ≤ sum_by weight (cond a (x ∷ filter p xs) (filter p xs))
  less_cons weight p q x xs true true give h =
      rw (sum_by-cons weight x (filter q xs), sum_by-cons weight x (filter p xs)) (omega arith)
  less_cons weight p q x xs true false give h = rw (sum_by-cons weight x (filter p xs)) (omega arith)
  less_cons weight p q x xs false true give h = let e : false ≡ true = give refl in cc
  less_cons weight p q x xs false false give h = h

  -- fewer rows sum to no more
  pub sum_fewer : (weight : R → ℕ) (p q : R → Bool) → ((x : R) → q x ≡ true → p x ≡ true) → (xs : List R)
      → sum_by weight (filter q xs) ≤ sum_by weight (filter p xs)
  sum_fewer weight p q give [] = omega arith
  sum_fewer weight p q give (x ∷ xs) = less_cons weight p q x xs (p x) (q x) (give x) (sum_fewer weight p q give xs)

  -- two changes agree on rows of which none passes a test, where they agree wherever it fails
  agree_none : {Q : Type 0} (f g : R → Q) (key : R → Bool) → ((x : R) → key x ≡ false → f x ≡ g x) → (xs : List R) → list_any key xs ≡ false
      → map f xs ≡ map g xs
  agree_none f g key give [] h = refl
  agree_none f g key give (x ∷ xs) h =
      rw (give x (or_false_first (key x) (list_any key xs) h), agree_none f g key give xs (or_false_second (key x) (list_any key xs) h)) refl

module _ {R : Type 0} (same : R → R → Bool) (e : IsEquivalence same) where
  -- the row that a search finds stands first
  found_here : {Q : Type 0} (f g : R → Q) (key : R → Bool) (row x : R) (rest : List R) → ((y : R) → key y ≡ true → same y row ≡ true) → f row ≡ g row
      → ((y : R) → key y ≡ false → f y ≡ g y) → list_any (same x) rest ≡ false → x ≡ row → map f (x ∷ rest) ≡ map g (x ∷ rest)
  found_here f g key row x rest give here other alone is =
      let first : f x ≡ g x = subst (λ y. f y ≡ g y) (sym is) here in
      let others : list_any key rest ≡ false = none_weaker (same x) key (λ y k. e.symm x y ∙ subst (λ z. same y z ≡ true) (sym is) (give y k)) rest alone in
      rw (first, agree_none f g key other rest others) refl

  -- it stands later
  found_later : {Q : Type 0} (f g : R → Q) (key p : R → Bool) (row x : R) (rest : List R) (b : Bool) → key x ≡ b → (key x ≡ true → same x row ≡ true)
      → (key x ≡ false → f x ≡ g x) → list_any (same x) rest ≡ false → find p rest ≡ Some row → map f rest ≡ map g rest → map f (x ∷ rest) ≡ map g (x ∷ rest)
  found_later f g key p row x rest true k give other alone found ih =
      let some : list_any (same x) rest ≡ true = any_found (same x) p row rest found (give k) in cc
  found_later f g key p row x rest false k give other alone found ih = rw (other k, ih) refl

  -- it stands first or later
  found_cons : {Q : Type 0} (f g : R → Q) (key p : R → Bool) (row x : R) (rest : List R) (b : Bool) → ((y : R) → key y ≡ true → same y row ≡ true)
      → f row ≡ g row → ((y : R) → key y ≡ false → f y ≡ g y) → list_any (same x) rest ≡ false → cond b (Some x) (find p rest) ≡ Some row
      → (find p rest ≡ Some row → map f rest ≡ map g rest) → map f (x ∷ rest) ≡ map g (x ∷ rest)
  found_cons f g key p row x rest true give here other alone found ih = let is : x ≡ row = cc in found_here f g key row x rest give here other alone is
  found_cons f g key p row x rest false give here other alone found ih = found_later f g key p row x rest (key x) refl (give x) (other x) alone found (ih found)

  -- two changes agree on rows with distinct keys where they agree on the one that a search finds, and on those with
  -- another key
  pub map_found : {Q : Type 0} (f g : R → Q) (key p : R → Bool) (row : R) (xs : List R) → ((y : R) → key y ≡ true → same y row ≡ true) → f row ≡ g row
      → ((y : R) → key y ≡ false → f y ≡ g y) → AreDistinct same xs → find p xs ≡ Some row → map f xs ≡ map g xs
  map_found f g key p row [] give here other distinct found = refl
  map_found f g key p row (x ∷ xs) give here other distinct found =
      found_cons f g key p row x xs (p x) give here other distinct.0 found (map_found f g key p row xs give here other distinct.1)
