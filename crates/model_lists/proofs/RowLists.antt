-- Tests of lists of rows: each row passes, some row passes, the first that passes; where a row is added, and where rows
-- change in place.
use Rattle.std.proofs.Common.{◌≡◌, Bool, true, false, not, ◌&&◌, ◌||◌, List, [], ◌∷◌, ◌++◌, Option, Some, None, cond, refl, ◌∙◌, ap, subst, is_some}
use Rattle.std.specs.List.{list_any, list_all, find, filter}
use Rattle.batch_model.specs.Finding.{Each}
use Rattle.model_lists.proofs.Tests.{and_true, and_first, and_second, or_first, or_second, or_false, or_false_first, or_false_second, not_true, true_not}

module _ {R : Type 0} where
  -- each row

  -- the first row and the others
  pub each_cons : (p : R → Bool) (x : R) (xs : List R) → p x ≡ true → Each p xs → Each p (x ∷ xs)
  each_cons p x xs h k = and_true h k

  -- the first row
  pub each_head : (p : R → Bool) (x : R) (xs : List R) → Each p (x ∷ xs) → p x ≡ true
  each_head p x xs h = and_first (p x) (list_all p xs) h

  -- the others
  pub each_tail : (p : R → Bool) (x : R) (xs : List R) → Each p (x ∷ xs) → Each p xs
  each_tail p x xs h = and_second (p x) (list_all p xs) h

  -- each row and an added one
  pub each_append : (p : R → Bool) (xs : List R) (x : R) → Each p xs → p x ≡ true → Each p (xs ++ x ∷ [])
  each_append p [] x h k = and_true k refl
  each_append p (y ∷ ys) x h k = each_cons p y (ys ++ x ∷ []) (each_head p y ys h) (each_append p ys x (each_tail p y ys h) k)

  -- what each row passes, for whatever reason
  pub each_any : (p : R → Bool) → ((x : R) → p x ≡ true) → (xs : List R) → Each p xs
  each_any p give [] = refl
  each_any p give (x ∷ xs) = each_cons p x xs (give x) (each_any p give xs)

  -- a test that follows from another
  pub each_weaker : (p q : R → Bool) → ((x : R) → p x ≡ true → q x ≡ true) → (xs : List R) → Each p xs → Each q xs
  each_weaker p q give [] h = refl
  each_weaker p q give (x ∷ xs) h = each_cons q x xs (give x (each_head p x xs h)) (each_weaker p q give xs (each_tail p x xs h))

  -- a test that follows from two others
  pub each_of_two : (p q r : R → Bool) → ((x : R) → p x ≡ true → q x ≡ true → r x ≡ true) → (xs : List R) → Each p xs → Each q xs → Each r xs
  each_of_two p q r give [] h k = refl
  each_of_two p q r give (x ∷ xs) h k =
      each_cons r x xs (give x (each_head p x xs h) (each_head q x xs k)) (each_of_two p q r give xs (each_tail p x xs h) (each_tail q x xs k))

  -- a test that follows from three others
  pub each_of_three : (p q u r : R → Bool) → ((x : R) → p x ≡ true → q x ≡ true → u x ≡ true → r x ≡ true) → (xs : List R) → Each p xs → Each q xs → Each u xs
      → Each r xs
  each_of_three p q u r give xs h k m =
      each_of_two (λ x. p x && q x) u r (λ x e. give x (and_first (p x) (q x) e) (and_second (p x) (q x) e)) xs
      (each_of_two p q (λ x. p x && q x) (λ x. and_true) xs h k) m

  -- two tests at once
  pub each_and : (p q : R → Bool) (xs : List R) → Each p xs → Each q xs → Each (λ x. p x && q x) xs
  each_and p q xs = each_of_two p q (λ x. p x && q x) (λ x. and_true) xs

  -- the row that a search finds
  found_passes : (p : R → Bool) (y x : R) (rest : Option R) (b : Bool) → p y ≡ true → cond b (Some y) rest ≡ Some x → (rest ≡ Some x → p x ≡ true) → p x ≡ true
  found_passes p y x rest true h e ih = let i : y ≡ x = cc in subst (λ z. p z ≡ true) i h
  found_passes p y x rest false h e ih = ih e

  pub each_found : (p test : R → Bool) (x : R) (xs : List R) → find test xs ≡ Some x → Each p xs → p x ≡ true
  each_found p test x [] e h = cc
  each_found p test x (y ∷ ys) e h =
      found_passes p y x (find test ys) (test y) (each_head p y ys h) e (λ k. each_found p test x ys k (each_tail p y ys h))

  -- what a search finds passes its test
  found_test : (test : R → Bool) (y x : R) (rest : Option R) (b : Bool) → test y ≡ b → cond b (Some y) rest ≡ Some x → (rest ≡ Some x → test x ≡ true)
      → test x ≡ true
  found_test test y x rest true h e ih = let i : y ≡ x = cc in subst (λ z. test z ≡ true) i h
  found_test test y x rest false h e ih = ih e

  pub find_test : (test : R → Bool) (x : R) (xs : List R) → find test xs ≡ Some x → test x ≡ true
  find_test test x [] e = cc
  find_test test x (y ∷ ys) e = found_test test y x (find test ys) (test y) refl e (find_test test x ys)

  -- some row

  -- some row passes after one was added, if some row or that one does
  pub any_append : (p : R → Bool) (xs : List R) (x : R) → list_any p (xs ++ x ∷ []) ≡ (list_any p xs || p x)
  any_append p [] x = or_none (p x)
    where
      or_none : (b : Bool) → (b || false) ≡ b
      or_none true = refl
      or_none false = refl
  any_append p (y ∷ ys) x = ap (λ b. p y || b) (any_append p ys x) ∙ or_later (p y) (list_any p ys) (p x)
    where
      or_later : (a b c : Bool) → (a || (b || c)) ≡ ((a || b) || c)
      or_later true b c = refl
      or_later false b c = refl

  -- some row passes, and still does after another was added
  pub any_append_old : (p : R → Bool) (xs : List R) (x : R) → list_any p xs ≡ true → list_any p (xs ++ x ∷ []) ≡ true
  any_append_old p xs x h = any_append p xs x ∙ or_first (p x) h

  -- the added row passes
  pub any_append_new : (p : R → Bool) (xs : List R) (x : R) → p x ≡ true → list_any p (xs ++ x ∷ []) ≡ true
  any_append_new p xs x h = any_append p xs x ∙ or_second (list_any p xs) h

  -- an added row that doesn't pass makes no difference
  pub any_append_same : (p : R → Bool) (xs : List R) (x : R) → p x ≡ false → list_any p (xs ++ x ∷ []) ≡ list_any p xs
  any_append_same p [] x h = rw h refl
  any_append_same p (y ∷ ys) x h = ap (λ b. p y || b) (any_append_same p ys x h)

  -- tests that are alike on each row
  pub any_agree : (p q : R → Bool) → ((x : R) → p x ≡ q x) → (xs : List R) → list_any p xs ≡ list_any q xs
  any_agree p q agree [] = refl
  any_agree p q agree (x ∷ xs) = rw (agree x, any_agree p q agree xs) refl

  -- tests that are alike on each row of the list
  pub any_agree_where : (a p q : R → Bool) → ((x : R) → a x ≡ true → p x ≡ q x) → (xs : List R) → Each a xs → list_any p xs ≡ list_any q xs
  any_agree_where a p q agree [] h = refl
  any_agree_where a p q agree (x ∷ xs) h = rw (agree x (each_head a x xs h), any_agree_where a p q agree xs (each_tail a x xs h)) refl

  -- a test that follows from another
  any_later : (p q : R → Bool) (x : R) (xs : List R) (b : Bool) → p x ≡ b → (b || list_any p xs) ≡ true → (p x ≡ true → q x ≡ true)
      → (list_any p xs ≡ true → list_any q xs ≡ true) → list_any q (x ∷ xs) ≡ true
  any_later p q x xs true e h give ih = or_first (list_any q xs) (give e)
  any_later p q x xs false e h give ih = or_second (q x) (ih h)

  pub any_weaker : (p q : R → Bool) → ((x : R) → p x ≡ true → q x ≡ true) → (xs : List R) → list_any p xs ≡ true → list_any q xs ≡ true
  any_weaker p q give [] h = cc
  any_weaker p q give (x ∷ xs) h = any_later p q x xs (p x) refl h (give x) (any_weaker p q give xs)

  -- a test that follows from another and from what each row passes
  pub any_weaker_where : (a p q : R → Bool) → ((x : R) → a x ≡ true → p x ≡ true → q x ≡ true) → (xs : List R) → Each a xs → list_any p xs ≡ true
      → list_any q xs ≡ true
  any_weaker_where a p q give [] k h = cc
  any_weaker_where a p q give (x ∷ xs) k h =
      any_later p q x xs (p x) refl h (give x (each_head a x xs k)) (any_weaker_where a p q give xs (each_tail a x xs k))

  -- no row passes: each row doesn't
  pub any_none : (p : R → Bool) (xs : List R) → list_any p xs ≡ false → Each (λ x. not (p x)) xs
  any_none p [] h = refl
  any_none p (x ∷ xs) h =
      and_true (true_not (or_false_first (p x) (list_any p xs) h)) (any_none p xs (or_false_second (p x) (list_any p xs) h))

  pub none_any : (p : R → Bool) (xs : List R) → Each (λ x. not (p x)) xs → list_any p xs ≡ false
  none_any p [] h = refl
  none_any p (x ∷ xs) h =
      or_false (not_true (p x) (and_first (not (p x)) (list_all (λ y. not (p y)) xs) h))
      (none_any p xs (and_second (not (p x)) (list_all (λ y. not (p y)) xs) h))

  -- no row passes a test from which one follows that no row passes
  pub none_weaker : (p q : R → Bool) → ((x : R) → q x ≡ true → p x ≡ true) → (xs : List R) → list_any p xs ≡ false → list_any q xs ≡ false
  none_weaker p q give xs h =
      none_any q xs (each_weaker (λ x. not (p x)) (λ x. not (q x)) (λ x. turned (p x) (q x) (give x)) xs (any_none p xs h))
    where
      turned : (a b : Bool) → (b ≡ true → a ≡ true) → not a ≡ true → not b ≡ true
      turned a true k n = let e : a ≡ true = k refl in let m : a ≡ false = not_true a n in cc
      turned a false k n = refl

  -- a row that a search finds passes another test too
  pub any_found : (p test : R → Bool) (x : R) (xs : List R) → find test xs ≡ Some x → p x ≡ true → list_any p xs ≡ true
  any_found p test x xs e h = from_false (list_any p xs) refl
    where
      from_false : (b : Bool) → list_any p xs ≡ b → b ≡ true
      from_false true k = refl
      from_false false k = let n : not (p x) ≡ true = each_found (λ y. not (p y)) test x xs e (any_none p xs k) in let m : p x ≡ false = not_true (p x) n in cc

  -- a search finds nothing: no row passes
  none_first : (test : R → Bool) (y : R) (rest : Option R) (any : Bool) (b : Bool) → cond b (Some y) rest ≡ None → (rest ≡ None → any ≡ false)
      → (b || any) ≡ false
  none_first test y rest any true e ih = cc
  none_first test y rest any false e ih = ih e

  pub find_none : (test : R → Bool) (xs : List R) → find test xs ≡ None → list_any test xs ≡ false
  find_none test [] e = refl
  find_none test (y ∷ ys) e = none_first test y (find test ys) (list_any test ys) (test y) e (find_none test ys)

  -- some row passes: a search finds it
  any_first : (test : R → Bool) (y : R) (rest : List R) (b : Bool) → (b || list_any test rest) ≡ true
      → (list_any test rest ≡ true → (x : R) × (find test rest ≡ Some x)) → (x : R) × (cond b (Some y) (find test rest) ≡ Some x)
  any_first test y rest true h ih = (y, refl)
  any_first test y rest false h ih = ih h

  pub find_any : (test : R → Bool) (xs : List R) → list_any test xs ≡ true → (x : R) × (find test xs ≡ Some x)
  find_any test [] h = cc
  find_any test (y ∷ ys) h = any_first test y ys (test y) h (find_any test ys)

  -- searches whose tests are alike on each row
  pub find_agree : (p q : R → Bool) → ((x : R) → p x ≡ q x) → (xs : List R) → find p xs ≡ find q xs
  find_agree p q agree [] = refl
  find_agree p q agree (x ∷ xs) = rw (agree x, find_agree p q agree xs) refl

  -- searches whose tests are alike on each row of the list
  pub find_agree_where : (a p q : R → Bool) → ((x : R) → a x ≡ true → p x ≡ q x) → (xs : List R) → Each a xs → find p xs ≡ find q xs
  find_agree_where a p q agree [] h = refl
  find_agree_where a p q agree (x ∷ xs) h = rw (agree x (each_head a x xs h), find_agree_where a p q agree xs (each_tail a x xs h)) refl

  -- what was found is still the first after a row was added
  found_still : (test : R → Bool) (y x : R) (rest later : Option R) (b : Bool) → cond b (Some y) rest ≡ Some x → (rest ≡ Some x → later ≡ Some x)
      → cond b (Some y) later ≡ Some x
  found_still test y x rest later true e ih = e
  found_still test y x rest later false e ih = ih e

  pub find_append_old : (test : R → Bool) (xs : List R) (row x : R) → find test xs ≡ Some x → find test (xs ++ row ∷ []) ≡ Some x
  find_append_old test [] row x e = cc
  find_append_old test (y ∷ ys) row x e = found_still test y x (find test ys) (find test (ys ++ row ∷ [])) (test y) e (find_append_old test ys row x)

  -- an added row that doesn't pass makes no difference to a search
  pub find_append_same : (test : R → Bool) (xs : List R) (row : R) → test row ≡ false → find test (xs ++ row ∷ []) ≡ find test xs
  find_append_same test [] row h = rw h refl
  find_append_same test (y ∷ ys) row h = ap (λ o. cond (test y) (Some y) o) (find_append_same test ys row h)

  -- the rows that pass, by tests that are alike on each row
  pub filter_agree : (p q : R → Bool) → ((x : R) → p x ≡ q x) → (xs : List R) → filter p xs ≡ filter q xs
  filter_agree p q agree [] = refl
  filter_agree p q agree (x ∷ xs) = rw (agree x, filter_agree p q agree xs) refl

  -- the rows that pass, by tests that are alike on each row of the list
  pub filter_agree_where : (a p q : R → Bool) → ((x : R) → a x ≡ true → p x ≡ q x) → (xs : List R) → Each a xs → filter p xs ≡ filter q xs
  filter_agree_where a p q agree [] h = refl
  filter_agree_where a p q agree (x ∷ xs) h = rw (agree x (each_head a x xs h), filter_agree_where a p q agree xs (each_tail a x xs h)) refl

-- no row passes, if a search finds none
pub none_found : {R : Type 0} (test : R → Bool) (rows : List R) → is_some (find test rows) ≡ false → list_any test rows ≡ false
none_found test rows h = find_none test rows (is_nothing (find test rows) h)
  where
    is_nothing : {A : Type 0} (o : Option A) → is_some o ≡ false → o ≡ None
    is_nothing None e = refl
    is_nothing (Some x) e = cc
