-- Puts for rows of a list, each in its place, change those rows; drops of all rows of a list leave none.
use Rattle.std.proofs.Common.{◌≡◌, Bool, true, false, not, List, [], ◌∷◌, Option, Some, None, cond, filter, map, unwrap_or, refl, sym, ◌∙◌, ap}
use Rattle.std.specs.List.{list_any}
use Rattle.std.specs.Cmp.{IsEquivalence}
use Rattle.bt_rows.specs.Lists.{put_row, drop_row, AreDistinct}
use Rattle.batch_model.specs.Finding.{only_if, change_where}
use Rattle.model_lists.proofs.Tests.{or_false_first, or_false_second}
use Rattle.model_lists.proofs.RowLists.{any_agree}

module _ {R : Type 0} (same : R → R → Bool) where
  -- a row is put, if there is one
  abbrev pub put_if_some : Option R → List R → List R
  put_if_some None rows = rows
  put_if_some (Some row) rows = put_row (λ old. same old row) row rows

  -- what each row of a list gives is put
  abbrev pub put_each : (R → Option R) → List R → List R → List R
  put_each give [] rows = rows
  put_each give (x ∷ xs) rows = put_each give xs (put_if_some (give x) rows)

module _ {R : Type 0} (same : R → R → Bool) (e : IsEquivalence same) (give : R → Option R) (keeps : (x y : R) → give x ≡ Some y → (z : R) → same z y ≡ same z x) where
  -- the row that is given, or else the row itself
  abbrev given : R → R
  given x = unwrap_or (give x) x

  -- a put after a row with another key
  put_past : (first x : R) (rows : List R) (o : Option R) → give x ≡ o → same first x ≡ false → put_if_some same o (first ∷ rows) ≡ first ∷ put_if_some same o rows
  put_past first x rows None g d = refl
  put_past first x rows (Some y) g d = rw (keeps x y g first ∙ d) refl

  -- puts after a row whose key none of them has
  pub put_each_past : (first : R) (xs rows : List R) → list_any (same first) xs ≡ false → put_each same give xs (first ∷ rows) ≡ first ∷ put_each same give xs rows
  put_each_past first [] rows d = refl
  put_each_past first (x ∷ xs) rows d =
      ap (put_each same give xs) (put_past first x rows (give x) refl (or_false_first (same first x) (list_any (same first) xs) d))
      ∙ put_each_past first xs (put_if_some same (give x) rows) (or_false_second (same first x) (list_any (same first) xs) d)

  -- a put of the first row
  put_first : (x : R) (xs : List R) (o : Option R) → give x ≡ o → put_if_some same o (x ∷ xs) ≡ unwrap_or o x ∷ xs
  put_first x xs None g = refl
  put_first x xs (Some y) g = rw (keeps x y g x ∙ e.refl x) refl

  -- what is given has a key that no later row has
  given_apart : (x : R) (xs : List R) (o : Option R) → give x ≡ o → list_any (same x) xs ≡ false → list_any (same (unwrap_or o x)) xs ≡ false
  given_apart x xs None g d = d
  given_apart x xs (Some y) g d =
      any_agree (same y) (same x) (λ z. sym (e.congr x y z (keeps x y g x ∙ e.refl x))) xs ∙ d

  -- each row becomes what it gives, if keys are distinct
  pub put_in_place : (xs : List R) → AreDistinct same xs → put_each same give xs xs ≡ map given xs
  put_in_place [] d = refl
  put_in_place (x ∷ xs) d =
      ap (put_each same give xs) (put_first x xs (give x) refl)
      ∙ put_each_past (given x) xs xs (given_apart x xs (give x) refl d.0)
      ∙ ap (λ rows. given x ∷ rows) (put_in_place xs d.1)

module _ {R : Type 0} (same : R → R → Bool) (e : IsEquivalence same) (test : R → Bool) (change : R → R) (keeps : (x z : R) → same z (change x) ≡ same z x) where
  -- only what passes the test is given
  pub only_given : (x y : R) (b : Bool) → only_if b (Some (change x)) ≡ Some y → (z : R) → same z y ≡ same z x
  only_given x y true h z = let i : change x ≡ y = cc in ap (same z) (sym i) ∙ keeps x z
  only_given x y false h z = cc

  only_changed : (x : R) (b : Bool) → unwrap_or (only_if b (Some (change x))) x ≡ cond b (change x) x
  only_changed x true = refl
  only_changed x false = refl

  all_changed : (xs : List R) → map (λ x. unwrap_or (only_if (test x) (Some (change x))) x) xs ≡ change_where test change xs
  all_changed [] = refl
  all_changed (x ∷ xs) = rw (only_changed x (test x), all_changed xs) refl

  -- puts of the changed rows that pass a test are the change of those rows
  pub put_is_change_where : (xs : List R) → AreDistinct same xs → put_each same (λ x. only_if (test x) (Some (change x))) xs xs ≡ change_where test change xs
  put_is_change_where xs d =
      put_in_place same e (λ x. only_if (test x) (Some (change x))) (λ x y. only_given x y (test x)) xs d ∙ all_changed xs

module _ {R : Type 0} (has : R → R → Bool) where
  -- the row with the key of each row of a list is dropped
  abbrev pub drop_each : List R → List R → List R
  drop_each [] rows = rows
  drop_each (x ∷ xs) rows = drop_each xs (drop_row (has x) rows)

  -- drops of all rows leave none
  pub drop_all : ((x : R) → has x x ≡ true) → (xs : List R) → drop_each xs xs ≡ []
  drop_all own [] = refl
  drop_all own (x ∷ xs) = rw (own x) (drop_all own xs)

module _ {R : Type 0} (same : R → R → Bool) (test : R → Bool) where
  -- the row with the key of each row that passes the test is dropped
  abbrev pub drop_where : List R → List R → List R
  drop_where [] rows = rows
  drop_where (x ∷ xs) rows = drop_where xs (cond (test x) (drop_row (λ y. same y x) rows) rows)

module _ {R : Type 0} (same : R → R → Bool) (e : IsEquivalence same) (test : R → Bool) where
  -- a drop after a row with another key
  drop_past : (first x : R) (rows : List R) (b : Bool) → same first x ≡ false
      → cond b (drop_row (λ y. same y x) (first ∷ rows)) (first ∷ rows) ≡ first ∷ cond b (drop_row (λ y. same y x) rows) rows
  drop_past first x rows true d = rw d refl
  drop_past first x rows false d = refl

  -- drops after a row whose key none of them has
  drop_where_past : (first : R) (xs rows : List R) → list_any (same first) xs ≡ false → drop_where same test xs (first ∷ rows) ≡ first ∷ drop_where same test xs rows
  drop_where_past first [] rows d = refl
  drop_where_past first (x ∷ xs) rows d =
      ap (drop_where same test xs) (drop_past first x rows (test x) (or_false_first (same first x) (list_any (same first) xs) d))
      ∙ drop_where_past first xs (cond (test x) (drop_row (λ y. same y x) rows) rows) (or_false_second (same first x) (list_any (same first) xs) d)

  -- the first row is dropped, or stays
  drop_first : (x : R) (xs : List R) (b : Bool) → list_any (same x) xs ≡ false → drop_where same test xs xs ≡ filter (λ y. not (test y)) xs
      → drop_where same test xs (cond b (drop_row (λ y. same y x) (x ∷ xs)) (x ∷ xs)) ≡ cond (not b) (x ∷ filter (λ y. not (test y)) xs) (filter (λ y. not (test y)) xs)
  drop_first x xs true d ih = rw (e.refl x) ih
  drop_first x xs false d ih = drop_where_past x xs xs d ∙ ap (λ rows. x ∷ rows) ih

  -- drops of the rows that pass the test leave the others, if keys are distinct
  pub drop_where_filters : (xs : List R) → AreDistinct same xs → drop_where same test xs xs ≡ filter (λ y. not (test y)) xs
  drop_where_filters [] d = refl
  drop_where_filters (x ∷ xs) d = drop_first x xs (test x) d.0 (drop_where_filters xs d.1)
