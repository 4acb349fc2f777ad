-- Rows no two of which are related: where a row is added, where rows change in place, and which row has a key.
use Rattle.std.proofs.Common.{◌≡◌, Bool, true, false, not, ◌||◌, List, [], ◌∷◌, ◌++◌, Some, cond, refl, sym, ◌∙◌, subst}
use Rattle.std.specs.List.{list_any, find}
use Rattle.std.specs.Cmp.{IsEquivalence}
use Rattle.bt_rows.specs.Lists.{AreDistinct}
use Rattle.batch_model.specs.Finding.{Each, change_where}
use Rattle.model_lists.proofs.Tests.{or_false_first, or_false_second, under}
use Rattle.model_lists.proofs.RowLists.{any_append_same, any_agree, none_weaker, each_cons, any_none, each_weaker}
use Rattle.model_lists.proofs.ChangedRows.{changed, same_changed, any_change_same}

module _ {R : Type 0} where
  -- an added row that no row is related to
  pub distinct_append : (r : R → R → Bool) (xs : List R) (row : R) → AreDistinct r xs → list_any (λ x. r x row) xs ≡ false → AreDistinct r (xs ++ row ∷ [])
  distinct_append r [] row d h = (refl, tt)
  distinct_append r (x ∷ xs) row d h = (
    any_append_same (r x) xs row (or_false_first (r x row) (list_any (λ y. r y row) xs) h) ∙ d.0,
    distinct_append r xs row d.1 (or_false_second (r x row) (list_any (λ y. r y row) xs) h),
  )

  -- a relation from which another follows
  pub distinct_weaker : (r q : R → R → Bool) → ((x y : R) → q x y ≡ true → r x y ≡ true) → (xs : List R) → AreDistinct r xs → AreDistinct q xs
  distinct_weaker r q give [] d = tt
  distinct_weaker r q give (x ∷ xs) d = (none_weaker (r x) (q x) (give x) xs d.0, distinct_weaker r q give xs d.1)

  -- changes that keep the relation on both sides
  pub distinct_change : (test : R → Bool) (change : R → R) (r : R → R → Bool) → ((x y : R) → test x ≡ true → r (change x) y ≡ r x y)
      → ((x y : R) → test y ≡ true → r x (change y) ≡ r x y) → (xs : List R) → AreDistinct r xs → AreDistinct r (change_where test change xs)
  distinct_change test change r left right [] d = tt
  distinct_change test change r left right (x ∷ xs) d = (
    any_change_same test change (r (changed test change x)) (λ y e. right (changed test change x) y e) xs
        ∙ any_agree (r (changed test change x)) (r x) (λ y. same_changed test change (λ z. r z y) x (left x y)) xs
        ∙ d.0,
    distinct_change test change r left right xs d.1,
  )

module _ {R : Type 0} (same : R → R → Bool) (e : IsEquivalence same) where
  -- the rows with the key of the first one are that row alone
  key_of_first : (p : R → Bool) (row x : R) (xs : List R) → same x row ≡ true → p x ≡ true → list_any (same x) xs ≡ false
      → Each (λ y. not (same y row) || p y) (x ∷ xs)
  key_of_first p row x xs k h d =
      each_cons (λ y. not (same y row) || p y) x xs (under (same x row) (p x) (λ i. h))
      (each_weaker (λ y. not (same x y)) (λ y. not (same y row) || p y) apart xs (any_none (same x) xs d))
    where
      apart : (y : R) → not (same x y) ≡ true → (not (same y row) || p y) ≡ true
      apart y n = rw (e.symm y row, sym (e.congr x row y k)) (off (same x y) n)
        where
          off : (b : Bool) → not b ≡ true → (not b || p y) ≡ true
          off true m = cc
          off false m = refl

  keyed : (p : R → Bool) (row x y : R) (ys : List R) (b : Bool) → same y row ≡ b → cond b (Some y) (find (λ z. same z row) ys) ≡ Some x → p x ≡ true
      → list_any (same y) ys ≡ false → (find (λ z. same z row) ys ≡ Some x → Each (λ z. not (same z row) || p z) ys)
      → Each (λ z. not (same z row) || p z) (y ∷ ys)
  keyed p row x y ys true k f h d ih = let i : x ≡ y = cc in key_of_first p row y ys k (subst (λ z. p z ≡ true) i h) d
  keyed p row x y ys false k f h d ih =
      each_cons (λ z. not (same z row) || p z) y ys (rw k refl) (ih f)

  -- what the row with a key passes, each row with the key passes
  pub each_with_key : (p : R → Bool) (row x : R) (xs : List R) → AreDistinct same xs → find (λ z. same z row) xs ≡ Some x → p x ≡ true
      → Each (λ z. not (same z row) || p z) xs
  each_with_key p row x [] d f h = cc
  each_with_key p row x (y ∷ ys) d f h = keyed p row x y ys (same y row) refl f h d.0 (λ g. each_with_key p row x ys d.1 g h)
