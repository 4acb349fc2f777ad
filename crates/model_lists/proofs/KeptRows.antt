-- Lists of which some rows are dropped: what each row passes, what some row passes, the first that passes, and sums.
use Rattle.std.proofs.Common.{◌≡◌, ℕ, ◌≤◌, ◌<◌, Bool, true, false, ◌||◌, List, [], ◌∷◌, Some, cond, sum_by, length, refl}
use Rattle.std.proofs.Common.{ap, arith}
use Rattle.std.specs.List.{list_any, list_all, find, filter}
use Rattle.std.proofs.lemmas.List.Sums.{sum_by-cons}
use Rattle.bt_rows.specs.Lists.{AreDistinct}
use Rattle.batch_model.specs.Finding.{Each}
use Rattle.model_lists.proofs.Tests.{or_false, or_false_first, or_false_second}
use Rattle.model_lists.proofs.RowLists.{each_cons, each_head, each_tail, each_weaker}
use Rattle.model_lists.proofs.MappedRows.{sum_fewer}
use Rattle.model_lists.proofs.RowSums.{sum_filter, sum_less_where}

module _ {R : Type 0} (keep : R → Bool) where
  -- the rows that are kept pass
  pub kept_pass : (rows : List R) → Each keep (filter keep rows)
  kept_pass [] = refl
  kept_pass (row ∷ rows) = first (keep row) refl (kept_pass rows)
    where
      first : (b : Bool) → keep row ≡ b → Each keep (filter keep rows) → Each keep (cond b (row ∷ filter keep rows) (filter keep rows))
      first true e h = each_cons keep row (filter keep rows) e h
      first false e h = h

  -- what each row passes, each kept row does
  pub each_kept : (p : R → Bool) (rows : List R) → Each p rows → Each p (filter keep rows)
  each_kept p [] h = refl
  each_kept p (row ∷ rows) h = first (keep row) (each_head p row rows h) (each_kept p rows (each_tail p row rows h))
    where
      first : (b : Bool) → p row ≡ true → Each p (filter keep rows) → Each p (cond b (row ∷ filter keep rows) (filter keep rows))
      first true e k = each_cons p row (filter keep rows) e k
      first false e k = k

  -- no row passes, so no kept one does
  pub none_kept : (p : R → Bool) (rows : List R) → list_any p rows ≡ false → list_any p (filter keep rows) ≡ false
  none_kept p [] h = refl
  none_kept p (row ∷ rows) h =
      first (keep row) (or_false_first (p row) (list_any p rows) h) (none_kept p rows (or_false_second (p row) (list_any p rows) h))
    where
      first : (b : Bool) → p row ≡ false → list_any p (filter keep rows) ≡ false → list_any p (cond b (row ∷ filter keep rows) (filter keep rows)) ≡ false
      first true e k = or_false e k
      first false e k = k

  -- a kept row passes, so some row does
  pub any_kept : (p : R → Bool) (rows : List R) → list_any p (filter keep rows) ≡ true → list_any p rows ≡ true
  any_kept p rows h = either (list_any p rows) refl
    where
      either : (b : Bool) → list_any p rows ≡ b → b ≡ true
      either true e = refl
      either false e = let n : list_any p (filter keep rows) ≡ false = none_kept p rows e in cc

  -- rows no two of which are related
  pub distinct_kept : (r : R → R → Bool) (rows : List R) → AreDistinct r rows → AreDistinct r (filter keep rows)
  distinct_kept r [] d = tt
  distinct_kept r (row ∷ rows) d = first (keep row) (none_kept (r row) rows d.0) (distinct_kept r rows d.1)
    where
      first : (b : Bool) → list_any (r row) (filter keep rows) ≡ false → AreDistinct r (filter keep rows)
          → AreDistinct r (cond b (row ∷ filter keep rows) (filter keep rows))
      first true e k = (e, k)
      first false e k = k

  -- some row passes that is kept, by what each row passes
  pub any_still_where : (a p : R → Bool) → ((row : R) → a row ≡ true → p row ≡ true → keep row ≡ true) → (rows : List R) → Each a rows
      → list_any p (filter keep rows) ≡ list_any p rows
  any_still_where a p give [] h = refl
  any_still_where a p give (row ∷ rows) h =
      first (keep row) (p row) refl refl (give row (each_head a row rows h)) (any_still_where a p give rows (each_tail a row rows h))
    where
      first : (b c : Bool) → keep row ≡ b → p row ≡ c → (p row ≡ true → keep row ≡ true) → list_any p (filter keep rows) ≡ list_any p rows
          → list_any p (cond b (row ∷ filter keep rows) (filter keep rows)) ≡ (p row || list_any p rows)
      first true c e f g k = ap (λ t. p row || t) k
      first false true e f g k = let n : keep row ≡ true = g f in cc
      first false false e f g k = rw f k

  -- the rows that pass are kept
  pub any_still : (p : R → Bool) → ((row : R) → p row ≡ true → keep row ≡ true) → (rows : List R) → list_any p (filter keep rows) ≡ list_any p rows
  any_still p give [] = refl
  any_still p give (row ∷ rows) = first (keep row) (p row) refl refl (give row) (any_still p give rows)
    where
      first : (b c : Bool) → keep row ≡ b → p row ≡ c → (p row ≡ true → keep row ≡ true) → list_any p (filter keep rows) ≡ list_any p rows
          → list_any p (cond b (row ∷ filter keep rows) (filter keep rows)) ≡ (p row || list_any p rows)
      first true c e f g k = ap (λ t. p row || t) k
      first false true e f g k = let n : keep row ≡ true = g f in cc
      first false false e f g k = rw f k

  -- so a search finds the same row
  pub find_still : (p : R → Bool) → ((row : R) → p row ≡ true → keep row ≡ true) → (rows : List R) → find p (filter keep rows) ≡ find p rows
  find_still p give [] = refl
  find_still p give (row ∷ rows) = first (keep row) (p row) refl refl (give row) (find_still p give rows)
    where
      first : (b c : Bool) → keep row ≡ b → p row ≡ c → (p row ≡ true → keep row ≡ true) → find p (filter keep rows) ≡ find p rows
          → find p (cond b (row ∷ filter keep rows) (filter keep rows)) ≡ cond (p row) (Some row) (find p rows)
      first true c e f g k = ap (λ o. cond (p row) (Some row) o) k
      first false true e f g k = let n : keep row ≡ true = g f in cc
      first false false e f g k = rw f k

  -- a sum over kept rows is at most that over all
  pub sum_kept : (f : R → ℕ) (rows : List R) → sum_by f (filter keep rows) ≤ sum_by f rows
  sum_kept f [] = omega arith
  sum_kept f (row ∷ rows) = first (keep row) (sum_kept f rows)
    where
      first : (b : Bool) → sum_by f (filter keep rows) ≤ sum_by f rows → sum_by f (cond b (row ∷ filter keep rows) (filter keep rows)) ≤ sum_by f (row ∷ rows)
      first true k = rw (sum_by-cons f row (filter keep rows), sum_by-cons f row rows) (omega arith)
      first false k = rw (sum_by-cons f row rows) (omega arith)

  -- so is a sum over those of them that pass
  pub sum_passing_kept : (f : R → ℕ) (p q : R → Bool) → ((row : R) → p row ≡ true → q row ≡ true) → (rows : List R)
      → sum_by f (filter p (filter keep rows)) ≤ sum_by f (filter q rows)
  sum_passing_kept f p q give rows =
      let fewer : sum_by f (filter p rows) ≤ sum_by f (filter q rows) = sum_fewer f q p give rows in
      let kept : sum_by (λ row. cond (p row) (f row) 0) (filter keep rows) ≤ sum_by (λ row. cond (p row) (f row) 0) rows =
      sum_kept (λ row. cond (p row) (f row) 0) rows
      in
      let before : sum_by f (filter p rows) ≡ sum_by (λ row. cond (p row) (f row) 0) rows = sum_filter p f rows in
      let after : sum_by f (filter p (filter keep rows)) ≡ sum_by (λ row. cond (p row) (f row) 0) (filter keep rows) = sum_filter p f (filter keep rows) in
      omega (arith, fewer, kept, before, after)

  -- a list of kept rows is no longer
  pub length_kept : (rows : List R) → length (filter keep rows) ≤ length rows
  length_kept [] = omega arith
  length_kept (row ∷ rows) = first (keep row) (length_kept rows)
    where
      first : (b : Bool) → length (filter keep rows) ≤ length rows → length (cond b (row ∷ filter keep rows) (filter keep rows)) ≤ length (row ∷ rows)
      first true k = omega arith
      first false k = omega arith

  -- a sum falls if a row that is found and adds to it is dropped
  pub sum_dropped : (f : R → ℕ) (test : R → Bool) (row : R) (rows : List R) → find test rows ≡ Some row → keep row ≡ false → 0 < f row
      → sum_by f (filter keep rows) < sum_by f rows
  sum_dropped f test row rows found dropped adds =
      let kept : sum_by f (filter keep rows) ≡ sum_by (λ other. cond (keep other) (f other) 0) rows = sum_filter keep f rows in
      let less : sum_by (λ other. cond (keep other) (f other) 0) rows < sum_by f rows =
      sum_less_where (λ other. true) (λ other. cond (keep other) (f other) 0) f (λ other k. at_most (keep other) (f other)) test row rows
      (each_weaker (λ other. true) (λ other. true) (λ other k. refl) rows (all_true rows)) found (rw dropped adds)
      in
      omega (arith, kept, less)
    where
      at_most : (b : Bool) (n : ℕ) → cond b n 0 ≤ n
      at_most true n = omega arith
      at_most false n = omega arith

      all_true : (others : List R) → Each (λ other. true) others
      all_true [] = refl
      all_true (other ∷ others) = all_true others

-- each pair of two lists is related, seen from the second
pub each_swap : {A B : Type 0} (r : A → B → Bool) (xs : List A) (ys : List B) → Each (λ x. list_all (r x) ys) xs → Each (λ y. list_all (λ x. r x y) xs) ys
each_swap r xs [] h = refl
each_swap r xs (y ∷ ys) h =
    each_cons (λ b. list_all (λ a. r a b) xs) y ys
    (each_weaker (λ x. list_all (r x) (y ∷ ys)) (λ x. r x y) (λ x. each_head (r x) y ys) xs h)
    (each_swap r xs ys (each_weaker (λ x. list_all (r x) (y ∷ ys)) (λ x. list_all (r x) ys) (λ x. each_tail (r x) y ys) xs h))
