-- Puts for rows of a list, read off it before its rows changed in place, and put into it afterwards.
use Rattle.std.proofs.Common.{◌≡◌, Bool, true, false, List, [], ◌∷◌, Option, Some, None, cond, map, unwrap_or, refl, sym, ◌∙◌, ap}
use Rattle.std.specs.List.{list_any}
use Rattle.std.specs.Cmp.{IsEquivalence}
use Rattle.bt_rows.specs.Lists.{AreDistinct}
use Rattle.batch_model.specs.Finding.{Each, only_if, change_where}
use Rattle.model_lists.proofs.RowLists.{any_agree, each_head, each_tail}
use Rattle.row_changes.proofs.PutsInPlace.{put_if_some, put_each, put_each_past, only_given}

module _ {R : Type 0} (same : R → R → Bool) (e : IsEquivalence same) (now : R → R) (kept : (x z : R) → same z (now x) ≡ same z x)
    (give : R → Option R) (keeps : (x y : R) → give x ≡ Some y → (z : R) → same z y ≡ same z x) where
  -- the row that is given, or else the row as it is now
  abbrev given_now : R → R
  given_now x = unwrap_or (give x) (now x)

  -- a put of the first row
  put_first_now : (x : R) (rows : List R) (o : Option R) → give x ≡ o → put_if_some same o (now x ∷ rows) ≡ unwrap_or o (now x) ∷ rows
  put_first_now x rows None g = refl
  put_first_now x rows (Some y) g = rw (keeps x y g (now x) ∙ e.symm (now x) x ∙ kept x x ∙ e.refl x) refl

  -- what is given has a key that no later row has
  given_now_apart : (x : R) (xs : List R) (o : Option R) → give x ≡ o → list_any (same x) xs ≡ false → list_any (same (unwrap_or o (now x))) xs ≡ false
  given_now_apart x xs None g d =
      any_agree (same (now x)) (same x) (λ z. sym (e.congr x (now x) z (kept x x ∙ e.refl x))) xs ∙ d
  given_now_apart x xs (Some y) g d =
      any_agree (same y) (same x) (λ z. sym (e.congr x y z (keeps x y g x ∙ e.refl x))) xs ∙ d

  -- each row becomes what it gives, or is as it is now, if keys are distinct
  pub put_in_place_now : (xs : List R) → AreDistinct same xs → put_each same give xs (map now xs) ≡ map given_now xs
  put_in_place_now [] d = refl
  put_in_place_now (x ∷ xs) d =
      ap (put_each same give xs) (put_first_now x (map now xs) (give x) refl)
      ∙ put_each_past same e give keeps (given_now x) xs (map now xs) (given_now_apart x xs (give x) refl d.0)
      ∙ ap (λ rows. given_now x ∷ rows) (put_in_place_now xs d.1)

-- rows became what `now` makes of them; then of the rows that passed `test` before, `change` is put. Such a row is as it was, and `later`
-- says of a row as it is now what `test` said of it before.
module _ {R : Type 0} (same : R → R → Bool) (e : IsEquivalence same) (now : R → R) (kept : (x z : R) → same z (now x) ≡ same z x)
    (test later : R → Bool) (change : R → R) (keeps : (x z : R) → same z (change x) ≡ same z x)
    (a : R → Bool) (apart : (x : R) → a x ≡ true → test x ≡ true → now x ≡ x)
    (alike : (x : R) → a x ≡ true → later (now x) ≡ test x) where
  one_now : (x : R) (b : Bool) → test x ≡ b → a x ≡ true
      → unwrap_or (only_if b (Some (change x))) (now x) ≡ cond (later (now x)) (change (now x)) (now x)
  one_now x true i k = ap change (sym (apart x k i)) ∙ sym (ap (λ b. cond b (change (now x)) (now x)) (alike x k ∙ i))
  one_now x false i k = sym (ap (λ b. cond b (change (now x)) (now x)) (alike x k ∙ i))

  all_now : (xs : List R) → Each a xs
      → map (λ x. unwrap_or (only_if (test x) (Some (change x))) (now x)) xs ≡ change_where later change (map now xs)
  all_now [] k = refl
  all_now (x ∷ xs) k = rw (one_now x (test x) refl (each_head a x xs k), all_now xs (each_tail a x xs k)) refl

  -- puts of the changed rows are the change of the rows as they are now
  pub put_is_change_after : (xs : List R) → AreDistinct same xs → Each a xs
      → put_each same (λ x. only_if (test x) (Some (change x))) xs (map now xs) ≡ change_where later change (map now xs)
  put_is_change_after xs d k =
      put_in_place_now same e now kept
      (λ x. only_if (test x) (Some (change x))) (λ x y. only_given same e test change keeps x y (test x)) xs d
      ∙ all_now xs k
