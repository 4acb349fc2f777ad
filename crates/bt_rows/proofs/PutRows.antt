-- `put_row`, `drop_row` and `find` by the place at which the test passes first.
use Rattle.std.proofs.Common.{◌≡◌, ℕ, suc, ◌+◌, ◌<◌, Bool, true, false, List, [], ◌∷◌, ◌++◌, length, Option, Some, None, MatchOption, cond, refl, sym, ◌∙◌, ap, subst, get_or, set, arith}
use Rattle.std.specs.List.{position, position_from, find, remove}
use Rattle.std.proofs.lemmas.Iterator.Adapters.{position_from-zero}
use Rattle.bt_rows.specs.Lists.{put_row, drop_row}

module _ {R : Type 0} (p : R → Bool) where
  -- the test passes first at place k
  pub record Placed (xs : List R) (k : ℕ) : Type 0 where
    pub inside : k < length xs
    pub put : (row : R) → put_row p row xs ≡ set xs k row
    pub drop : drop_row p xs ≡ remove xs k
    pub found : (d : R) → find p xs ≡ Some (get_or xs k d)

  -- it passes nowhere
  pub record Absent (xs : List R) : Type 0 where
    pub put : (row : R) → put_row p row xs ≡ xs ++ row ∷ []
    pub drop : drop_row p xs ≡ xs
    pub found : find p xs ≡ None

  placed-here : (x : R) (xs : List R) → p x ≡ true → Placed (x ∷ xs) 0
  placed-here x xs e = record { inside = omega arith; put = λ row. rw e refl; drop = rw e refl; found = λ d. rw e refl }

  placed-after : (x : R) (xs : List R) (k : ℕ) → p x ≡ false → Placed xs k → Placed (x ∷ xs) (suc k)
  placed-after x xs k e h = record {
    inside = let lt : k < length xs = h.inside in omega arith;
    put = λ row. rw e (ap (λ ys. x ∷ ys) (h.put row));
    drop = rw e (ap (λ ys. x ∷ ys) h.drop);
    found = λ d. rw e (h.found d);
  }

  absent-after : (x : R) (xs : List R) → p x ≡ false → Absent xs → Absent (x ∷ xs)
  absent-after x xs e h = record {
    put = λ row. rw e (ap (λ ys. x ∷ ys) (h.put row));
    drop = rw e (ap (λ ys. x ∷ ys) h.drop);
    found = rw e h.found;
  }

  Known : List R → ℕ → Option ℕ → Type 0
  Known xs n r = MatchOption r (Absent xs) (λ i. (k : ℕ) × (i ≡ k + n) × Placed xs k)

  known-after : (x : R) (xs : List R) (n : ℕ) (r : Option ℕ) → p x ≡ false → Known xs (n + 1) r → Known (x ∷ xs) n r
  unfolding Known
  known-after x xs n None e h = absent-after x xs e h
  known-after x xs n (Some i) e h = (suc h.0, omega (arith, h.1), placed-after x xs h.0 e h.2)

  known-here : (x : R) (xs : List R) (n : ℕ) → p x ≡ true → Known (x ∷ xs) n (Some n)
  unfolding Known
  known-here x xs n e = (0, omega arith, placed-here x xs e)

  known-cons : (x : R) (xs : List R) (n : ℕ) (b : Bool) → p x ≡ b → Known xs (n + 1) (position_from p (n + 1) xs) → Known (x ∷ xs) n (cond b (Some n) (position_from p (n + 1) xs))
  known-cons x xs n true e h = known-here x xs n e
  known-cons x xs n false e h = known-after x xs n _ e h

  known : (xs : List R) (n : ℕ) → Known xs n (position_from p n xs)
  unfolding Known
  known [] n = record { put = λ row. refl; drop = refl; found = refl }
  known (x ∷ xs) n = known-cons x xs n (p x) refl (known xs (n + 1))

  known-position : (xs : List R) (r : Option ℕ) → r ≡ position p xs → Known xs 0 r
  known-position xs r e = subst (Known xs 0) (sym (e ∙ position_from-zero p xs)) (known xs 0)

  placed-zero : (xs : List R) (i : ℕ) → Known xs 0 (Some i) → Placed xs i
  unfolding Known
  placed-zero xs i h = subst (Placed xs) (omega (arith, h.1)) h.2

  absent-zero : (xs : List R) → Known xs 0 None → Absent xs
  unfolding Known
  absent-zero xs h = h

  pub placed : (xs : List R) (i : ℕ) → Some i ≡ position p xs → Placed xs i
  placed xs i e = placed-zero xs i (known-position xs (Some i) e)

  pub absent : (xs : List R) → None ≡ position p xs → Absent xs
  absent xs e = absent-zero xs (known-position xs None e)
