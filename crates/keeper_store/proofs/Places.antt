-- Puts and drops at the place of the first row that has the key.
use Rattle.std.proofs.Common.{◌≡◌, ℕ, suc, ◌+◌, ◌<◌, ◌≤◌, Bool, true, false, cond, List, [], ◌∷◌, ◌++◌, length, set, take, drop, nat_lt}
use Rattle.std.proofs.Common.{Some, None, refl, ap, subst, ◌∙◌, arith}
use Rattle.std.specs.List.{position, position_or_len}
use Rattle.std.proofs.lemmas.Bool.{ltb-true, ltb-false}
use Rattle.std.proofs.lemmas.List.Recursion.{is_position_or_len}
use Rattle.bt_rows.specs.Lists.{put_row, drop_row}

module _ {R : Type 0} (test : R → Bool) where
  -- the place of the first row that passes the test, or the number of rows
  abbrev place_in : List R → ℕ
  place_in [] = 0
  place_in (row ∷ rows) = cond (test row) 0 (suc (place_in rows))

  one_more : (b : Bool) (n : ℕ) → cond b 0 (suc n) ≡ cond b 0 (1 + n)
  one_more true n = refl
  one_more false n = omega arith

  place_is : (rows : List R) → place_in rows ≡ position_or_len test rows
  place_is rows = is_position_or_len place_in test refl (λ x xs. one_more (test x) (place_in xs)) rows

  set_case : (b : Bool) (old new : R) (rows : List R) → cond b 0 (suc (place_in rows)) < suc (length rows)
      → (place_in rows < length rows → set rows (place_in rows) new ≡ put_row test new rows)
      → set (old ∷ rows) (cond b 0 (suc (place_in rows))) new ≡ cond b (new ∷ rows) (old ∷ put_row test new rows)
  set_case true old new rows h rest = refl
  set_case false old new rows h rest = ap (λ (r : List R). old ∷ r) (rest (omega (arith, h)))

  set_at : (rows : List R) (new : R) → place_in rows < length rows → set rows (place_in rows) new ≡ put_row test new rows
  set_at [] new h = absurd (omega (arith, h))
  set_at (old ∷ rows) new h = set_case (test old) old new rows h (set_at rows new)

  end_case : (b : Bool) (old new : R) (rows : List R) → (cond b 0 (suc (place_in rows)) < suc (length rows) → ⊥)
      → ((place_in rows < length rows → ⊥) → rows ++ new ∷ [] ≡ put_row test new rows)
      → old ∷ (rows ++ new ∷ []) ≡ cond b (new ∷ rows) (old ∷ put_row test new rows)
  end_case true old new rows h rest = absurd (h (omega arith))
  end_case false old new rows h rest = ap (λ (r : List R). old ∷ r) (rest (λ k. h (omega (arith, k))))

  at_end : (rows : List R) (new : R) → (place_in rows < length rows → ⊥) → rows ++ new ∷ [] ≡ put_row test new rows
  at_end [] new h = refl
  at_end (old ∷ rows) new h = end_case (test old) old new rows h (at_end rows new)

  drop_case : (b : Bool) (old : R) (rows : List R) → cond b 0 (suc (place_in rows)) < suc (length rows)
      → (place_in rows < length rows → take (place_in rows) rows ++ drop (suc (place_in rows)) rows ≡ drop_row test rows)
      → take (cond b 0 (suc (place_in rows))) (old ∷ rows) ++ drop (suc (cond b 0 (suc (place_in rows)))) (old ∷ rows) ≡ cond b rows (old ∷ drop_row test rows)
  drop_case true old rows h rest = refl
  drop_case false old rows h rest = ap (λ (r : List R). old ∷ r) (rest (omega (arith, h)))

  drop_at : (rows : List R) → place_in rows < length rows → take (place_in rows) rows ++ drop (suc (place_in rows)) rows ≡ drop_row test rows
  drop_at [] h = absurd (omega (arith, h))
  drop_at (old ∷ rows) h = drop_case (test old) old rows h (drop_at rows)

  none_case : (b : Bool) (old : R) (rows : List R) → (cond b 0 (suc (place_in rows)) < suc (length rows) → ⊥)
      → ((place_in rows < length rows → ⊥) → rows ≡ drop_row test rows) → old ∷ rows ≡ cond b rows (old ∷ drop_row test rows)
  none_case true old rows h rest = absurd (h (omega arith))
  none_case false old rows h rest = ap (λ (r : List R). old ∷ r) (rest (λ k. h (omega (arith, k))))

  no_drop : (rows : List R) → (place_in rows < length rows → ⊥) → rows ≡ drop_row test rows
  no_drop [] h = refl
  no_drop (old ∷ rows) h = none_case (test old) old rows h (no_drop rows)

  -- what a search says
  found_case : (b : Bool) (a i : ℕ) → cond b (Some a) None ≡ Some i → (b ≡ true) × (a ≡ i)
  found_case true a i h = (refl, cc)
  found_case false a i h = absurd (cc)

  missed_case : (b : Bool) (a : ℕ) → cond b (Some a) None ≡ None → b ≡ false
  missed_case true a h = absurd (cc)
  missed_case false a h = refl

  found_at : (rows : List R) (at : ℕ) → position test rows ≡ Some at → (place_in rows ≡ at) × (place_in rows < length rows)
  found_at rows at h =
      let both = found_case (nat_lt (position_or_len test rows) (length rows)) (position_or_len test rows) at h in
      let is : place_in rows ≡ at = place_is rows ∙ both.1 in
      let less : position_or_len test rows < length rows = ltb-true (position_or_len test rows) (length rows) both.0 in
      (is, omega (arith, less, place_is rows))

  missed_all : (rows : List R) → position test rows ≡ None → place_in rows < length rows → ⊥
  missed_all rows h k =
      let no = missed_case (nat_lt (position_or_len test rows) (length rows)) (position_or_len test rows) h in
      let most : length rows ≤ position_or_len test rows = ltb-false (position_or_len test rows) (length rows) no in
      omega (arith, most, place_is rows, k)

  -- a row that is set at the place of the first that has its key is put
  pub set_is_put : (rows : List R) (new : R) (at : ℕ) → position test rows ≡ Some at → set rows at new ≡ put_row test new rows
  set_is_put rows new at h = let f = found_at rows at h in subst (λ i. set rows i new ≡ put_row test new rows) f.0 (set_at rows new f.1)

  -- a row that is pushed, where none has its key, is put
  pub push_is_put : (rows : List R) (new : R) → position test rows ≡ None → rows ++ new ∷ [] ≡ put_row test new rows
  push_is_put rows new h = at_end rows new (missed_all rows h)

  -- the first row that has the key is dropped
  pub cut_is_drop : (rows : List R) (at : ℕ) → position test rows ≡ Some at → take at rows ++ drop (at + 1) rows ≡ drop_row test rows
  cut_is_drop rows at h = let f = found_at rows at h in
      let next : at + 1 ≡ suc at = omega arith in
      rw next (subst (λ i. take i rows ++ drop (suc i) rows ≡ drop_row test rows) f.0 (drop_at rows f.1))

  -- where no row has the key nothing is dropped
  pub none_is_drop : (rows : List R) → position test rows ≡ None → rows ≡ drop_row test rows
  none_is_drop rows h = no_drop rows (missed_all rows h)
