-- Rows that are put one after another: none replaces another exactly if no two have the same key.
use Rattle.std.proofs.Common.{◌≡◌, ◌+◌, ◌≤◌, Bool, true, false, ◌||◌, cond, List, [], ◌∷◌, ◌++◌, length}
use Rattle.std.proofs.Common.{refl, sym, ap, subst, ◌∙◌, append_assoc, append-nil, arith}
use Rattle.std.proofs.lemmas.Bool.{or_parts}
use Rattle.std.specs.List.{list_any}
use Rattle.bt_rows.specs.Lists.{put_row, AreDistinct}

module _ {R : Type 0} where
  one_longer : (test : R → Bool) (row old : R) (rows : List R) (b : Bool) → length (put_row test row rows) ≤ length rows + 1
      → length (cond b (row ∷ rows) (old ∷ put_row test row rows)) ≤ length (old ∷ rows) + 1
  one_longer test row old rows true h = omega arith
  one_longer test row old rows false h = omega (arith, h)

  -- a put adds at most one row
  put_length : (test : R → Bool) (row : R) (rows : List R) → length (put_row test row rows) ≤ length rows + 1
  put_length test row [] = omega arith
  put_length test row (old ∷ rows) = one_longer test row old rows (test old) (put_length test row rows)

  last_case : (test : R → Bool) (row old : R) (rows : List R) (b : Bool)
      → (length (put_row test row rows) ≡ length rows + 1 → put_row test row rows ≡ rows ++ row ∷ [])
      → length (cond b (row ∷ rows) (old ∷ put_row test row rows)) ≡ length (old ∷ rows) + 1
      → cond b (row ∷ rows) (old ∷ put_row test row rows) ≡ old ∷ (rows ++ row ∷ [])
  last_case test row old rows true rest h = absurd (omega (arith, h))
  last_case test row old rows false rest h = ap (λ (r : List R). old ∷ r) (rest (omega (arith, h)))

  -- if it adds one, that is the last
  put_last : (test : R → Bool) (row : R) (rows : List R) → length (put_row test row rows) ≡ length rows + 1 → put_row test row rows ≡ rows ++ row ∷ []
  put_last test row [] h = refl
  put_last test row (old ∷ rows) h = last_case test row old rows (test old) (put_last test row rows) h

  new_case : (test : R → Bool) (row old : R) (rows : List R) (b : Bool) → (b || list_any test rows) ≡ false
      → (list_any test rows ≡ false → put_row test row rows ≡ rows ++ row ∷ []) → cond b (row ∷ rows) (old ∷ put_row test row rows) ≡ old ∷ (rows ++ row ∷ [])
  new_case test row old rows true h rest = absurd (cc)
  new_case test row old rows false h rest = ap (λ (r : List R). old ∷ r) (rest h)

  -- a row with a key that no row has is the last
  put_new : (test : R → Bool) (row : R) (rows : List R) → list_any test rows ≡ false → put_row test row rows ≡ rows ++ row ∷ []
  put_new test row [] h = refl
  put_new test row (old ∷ rows) h = new_case test row old rows (test old) h (put_new test row rows)

  none_there : (test : R → Bool) (old : List R) (row : R) (rows : List R) → list_any test (old ++ row ∷ rows) ≡ false → test row ≡ false
  none_there test [] row rows h = (or_parts (test row) (list_any test rows) h).0
  none_there test (x ∷ old) row rows h = none_there test old row rows (or_parts (test x) (list_any test (old ++ row ∷ rows)) h).1

module _ {R : Type 0} (same : R → R → Bool) where
  -- with these rows put, from the first to the last
  abbrev pub put_all : List R → List R → List R
  put_all [] old = old
  put_all (row ∷ rows) old = put_all rows (put_row (λ x. same x row) row old)

  all_length : (rows old : List R) → length (put_all rows old) ≤ length old + length rows
  all_length [] old = omega arith
  all_length (row ∷ rows) old =
      let next = put_row (λ x. same x row) row old in
      let rest : length (put_all rows next) ≤ length next + length rows = all_length rows next in
      let one : length next ≤ length old + 1 = put_length (λ x. same x row) row old in
      omega (arith, rest, one)

  -- if as many rows are added as are put, these are the last
  pub all_last : (rows old : List R) → length (put_all rows old) ≡ length old + length rows → put_all rows old ≡ old ++ rows
  all_last [] old h = sym (append-nil old)
  all_last (row ∷ rows) old h =
      let next = put_row (λ x. same x row) row old in
      let rest : length (put_all rows next) ≤ length next + length rows = all_length rows next in
      let one : length next ≤ length old + 1 = put_length (λ x. same x row) row old in
      let whole : length (put_all rows next) ≡ length old + length (row ∷ rows) = h in
      let longer : length next ≡ length old + 1 = omega (arith, rest, one, whole) in
      let is : next ≡ old ++ row ∷ [] = put_last (λ x. same x row) row old longer in
      all_last rows next (omega (arith, whole, longer)) ∙ ap (λ (r : List R). r ++ rows) is ∙ append_assoc old (row ∷ []) rows

  apart : (old : List R) (row : R) (rows : List R) → AreDistinct same (old ++ row ∷ rows) → list_any (λ x. same x row) old ≡ false
  apart [] row rows d = refl
  apart (x ∷ old) row rows d = rw (none_there (same x) old row rows d.0) (apart old row rows d.1)

  -- rows with keys of their own are the last
  pub all_new : (rows old : List R) → AreDistinct same (old ++ rows) → put_all rows old ≡ old ++ rows
  all_new [] old d = sym (append-nil old)
  all_new (row ∷ rows) old d =
      let is : put_row (λ x. same x row) row old ≡ old ++ row ∷ [] = put_new (λ x. same x row) row old (apart old row rows d) in
      let turned : (old ++ row ∷ []) ++ rows ≡ old ++ row ∷ rows = append_assoc old (row ∷ []) rows in
      ap (put_all rows) is ∙ all_new rows (old ++ row ∷ []) (subst (AreDistinct same) (sym turned) d) ∙ turned
