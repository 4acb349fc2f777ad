-- The row with a key, where no two rows have the same key, and what changes with it.
use Rattle.std.proofs.Common.{◌≡◌, ℕ, ◌+◌, ◌≤◌, Bool, true, false, not, ◌&&◌, ◌||◌, List, [], ◌∷◌, Some, cond, filter, find, sum_by, refl, sym, ◌∙◌, arith}
use Rattle.std.specs.List.{list_any, list_all}
use Rattle.std.specs.Cmp.{IsEquivalence}
use Rattle.std.proofs.lemmas.List.Sums.{sum_by-cons}
use Rattle.bt_rows.specs.Lists.{AreDistinct}
use Rattle.bt_rows.proofs.DistinctRows.{sum_by-put}
use Rattle.batch_model.specs.Finding.{Each, change_where}
use Rattle.model_lists.proofs.Putting.{put_row-found}
use Rattle.model_lists.proofs.Tests.{or_first, or_second}
use Rattle.model_lists.proofs.RowLists.{find_agree, each_cons, each_weaker, any_none, none_any}

module _ {R : Type 0} (same : R → R → Bool) (e : IsEquivalence same) (a : R) (xs : List R) (d : AreDistinct same xs)
    (h : find (λ y. same y a) xs ≡ Some a) where
  -- a row put in the place of the one with its key is that one changed
  pub put_is_change : (g : R → R) → ((x : R) → same x (g a) ≡ same x a) → change_where (λ y. same y a) (λ y. g a) xs ≡ change_where (λ y. same y a) g xs
  put_is_change g keeps =
      sym (put_row-found same e (λ y. same y a) (λ y. g a) a (λ x. refl) keeps xs d h)
      ∙ put_row-found same e (λ y. same y a) g a (λ x. refl) keeps xs d h

  -- a sum loses what the row before gave, and gains what the new one gives
  pub sum_by-put_row : (f : R → ℕ) (row : R) → ((x : R) → same x row ≡ same x a)
      → sum_by f (change_where (λ y. same y a) (λ y. row) xs) + f a ≡ sum_by f xs + f row
  sum_by-put_row f row keeps =
      rw (← put_row-found same e (λ y. same y a) (λ y. row) a (λ x. refl) keeps xs d h)
      (sum_by-put f (λ y. same y row) row a xs (find_agree (λ y. same y row) (λ y. same y a) keeps xs ∙ h))

module _ {R : Type 0} (f : R → ℕ) (p q : R → Bool) where
  fewer_cons : (x : R) (rest : List R) (b c : Bool) → ((not b || c) && list_all (λ y. not (p y) || q y) rest) ≡ true
      → (Each (λ y. not (p y) || q y) rest → sum_by f (filter p rest) ≤ sum_by f (filter q rest))
      → sum_by f (cond b (x ∷ filter p rest) (filter p rest)) ≤ sum_by f (cond c (x ∷ filter q rest) (filter q rest))
  fewer_cons x rest true true h ih =
      let k : sum_by f (filter p rest) ≤ sum_by f (filter q rest) = ih h in
      rw (sum_by-cons f x (filter p rest), sum_by-cons f x (filter q rest)) (omega arith)
  fewer_cons x rest true false h ih = cc
  fewer_cons x rest false true h ih =
      let k : sum_by f (filter p rest) ≤ sum_by f (filter q rest) = ih h in
      rw (sum_by-cons f x (filter q rest)) (omega arith)
  fewer_cons x rest false false h ih = ih h

  -- fewer rows give no more
  pub sum_by-fewer : (xs : List R) → Each (λ y. not (p y) || q y) xs → sum_by f (filter p xs) ≤ sum_by f (filter q xs)
  sum_by-fewer [] h = omega arith
  sum_by-fewer (x ∷ xs) h = fewer_cons x xs (p x) (q x) h (sum_by-fewer xs)

-- one row at most passes a test, since two that pass are related: what some such row passes besides, each such row passes
module _ {R : Type 0} (r : R → R → Bool) (p q : R → Bool) (related : (x y : R) → p x ≡ true → p y ≡ true → r x y ≡ true) where
  only_cons : (x : R) (xs : List R) (b : Bool) → p x ≡ b → list_any (r x) xs ≡ false → ((b && q x) || list_any (λ y. p y && q y) xs) ≡ true
      → (list_any (λ y. p y && q y) xs ≡ true → Each (λ y. not (p y) || q y) xs) → Each (λ y. not (p y) || q y) (x ∷ xs)
  only_cons x xs true e alone h ih =
      let others : Each (λ y. not (p y)) xs =
      each_weaker (λ y. not (r x y)) (λ y. not (p y)) (λ y n. apart y (p y) refl n) xs (any_none (r x) xs alone)
      in
      let none : list_any (λ y. p y && q y) xs ≡ false =
      none_any (λ y. p y && q y) xs (each_weaker (λ y. not (p y)) (λ y. not (p y && q y)) (λ y n. neither (p y) (q y) n) xs others)
      in
      each_cons (λ y. not (p y) || q y) x xs (or_second (not (p x)) (first (q x) (list_any (λ y. p y && q y) xs) none h))
      (each_weaker (λ y. not (p y)) (λ y. not (p y) || q y) (λ y n. or_first (q y) n) xs others)
    where
      apart : (y : R) (b : Bool) → p y ≡ b → not (r x y) ≡ true → not b ≡ true
      apart y true k n = let m : r x y ≡ true = related x y e k in cc
      apart y false k n = refl

      neither : (a b : Bool) → not a ≡ true → not (a && b) ≡ true
      neither true b n = cc
      neither false b n = refl

      first : (a b : Bool) → b ≡ false → (a || b) ≡ true → a ≡ true
      first true b n k = refl
      first false b n k = cc
  only_cons x xs false e alone h ih =
      each_cons (λ y. not (p y) || q y) x xs (rw e refl) (ih h)

  pub only_one : (xs : List R) → AreDistinct r xs → list_any (λ x. p x && q x) xs ≡ true → Each (λ x. not (p x) || q x) xs
  only_one [] d h = refl
  only_one (x ∷ xs) d h = only_cons x xs (p x) refl d.0 h (only_one xs d.1)
