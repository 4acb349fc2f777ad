-- What holds of each row, or of some row, still holds after a put.
use Rattle.std.proofs.Common.{◌≡◌, Bool, true, false, ◌||◌, List, [], ◌∷◌, Some, cond, refl, sym, subst}
use Rattle.std.specs.List.{list_any, find, All}
use Rattle.std.proofs.lemmas.List.Elements.{All-cons, All-head, All-tail}
use Rattle.bt_rows.specs.Lists.{put_row}

module _ {R : Type 0} (key : R → Bool) where
  -- what holds of each row
  all_cons : (P : R → Type 0) (row old : R) (rest : List R) (b : Bool) → P row → P old → All P rest → All P (put_row key row rest) → All P (cond b (row ∷ rest) (old ∷ put_row key row rest))
  all_cons P row old rest true p q r ih = All-cons P row rest p r
  all_cons P row old rest false p q r ih = All-cons P old (put_row key row rest) q ih

  pub All-put : (P : R → Type 0) (row : R) (xs : List R) → P row → All P xs → All P (put_row key row xs)
  All-put P row [] p h = All-cons P row [] p h
  All-put P row (old ∷ rest) p h =
      all_cons P row old rest (key old) p (All-head P old rest h) (All-tail P old rest h) (All-put P row rest p (All-tail P old rest h))

  -- some row passes after a put: the new one, or one that is not replaced
  or_right : (a : Bool) {b : Bool} → b ≡ true → (a || b) ≡ true
  or_right true h = refl
  or_right false h = h

  or_left : {a : Bool} (b : Bool) → a ≡ true → (a || b) ≡ true
  or_left b h = rw h refl

  or_cases : (a b : Bool) → (a || b) ≡ true → a ≡ false → b ≡ true
  or_cases true b h k = cc
  or_cases false b h k = h

  new_cons : (p : R → Bool) (row old : R) (rest : List R) (b : Bool) → p row ≡ true → list_any p (put_row key row rest) ≡ true → list_any p (cond b (row ∷ rest) (old ∷ put_row key row rest)) ≡ true
  new_cons p row old rest true h ih = or_left (list_any p rest) h
  new_cons p row old rest false h ih = or_right (p old) ih

  pub any-put_new : (p : R → Bool) (row : R) (xs : List R) → p row ≡ true → list_any p (put_row key row xs) ≡ true
  any-put_new p row [] h = or_left false h
  any-put_new p row (old ∷ rest) h = new_cons p row old rest (key old) h (any-put_new p row rest h)

  kept_cons : (p : R → Bool) (row old first : R) (rest : List R) (b c : Bool) → p old ≡ c → cond b (Some old) (find key rest) ≡ Some first → p first ≡ false → (c || list_any p rest) ≡ true → (find key rest ≡ Some first → list_any p rest ≡ true → list_any p (put_row key row rest) ≡ true) → list_any p (cond b (row ∷ rest) (old ∷ put_row key row rest)) ≡ true
  kept_cons p row old first rest true true e f n h ih = let i : old ≡ first = cc in let k : p old ≡ false = subst (λ y. p y ≡ false) (sym i) n in cc
  kept_cons p row old first rest true false e f n h ih = or_right (p row) h
  kept_cons p row old first rest false true e f n h ih = or_left (list_any p (put_row key row rest)) e
  kept_cons p row old first rest false false e f n h ih = or_right (p old) (ih f h)

  -- the row that is replaced does not pass, so that another one does
  pub any-put_kept : (p : R → Bool) (row first : R) (xs : List R) → find key xs ≡ Some first → p first ≡ false → list_any p xs ≡ true → list_any p (put_row key row xs) ≡ true
  any-put_kept p row first [] f n h = cc
  any-put_kept p row first (old ∷ rest) f n h =
      kept_cons p row old first rest (key old) (p old) refl f n h (λ g k. any-put_kept p row first rest g n k)
