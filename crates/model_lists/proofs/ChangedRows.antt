-- Lists of rows that change in place: each row passes, some row passes, and the first that passes.
use Rattle.std.proofs.Common.{◌≡◌, Bool, true, false, ◌&&◌, ◌||◌, List, [], ◌∷◌, Option, Some, cond, refl}
use Rattle.std.specs.List.{list_any, find}
use Rattle.std.specs.Option.{option_map}
use Rattle.batch_model.specs.Finding.{Each, change_where}
use Rattle.model_lists.proofs.Tests.{and_true, and_first, and_second, or_first, or_second, or_false_first, or_false_second}
use Rattle.model_lists.proofs.RowLists.{each_cons, each_head, each_tail, any_weaker_where}

module _ {R : Type 0} (test : R → Bool) (change : R → R) where
  -- a row that passes the test, changed, and another as it is
  abbrev pub changed : R → R
  changed x = cond (test x) (change x) x

  -- what a row passes, changed or not
  pub passes_changed : (q : R → Bool) (x : R) → (test x ≡ true → q (change x) ≡ true) → (test x ≡ false → q x ≡ true) → q (changed x) ≡ true
  passes_changed q x give keep = either (test x) give keep
    where
      either : (b : Bool) → (b ≡ true → q (change x) ≡ true) → (b ≡ false → q x ≡ true) → q (cond b (change x) x) ≡ true
      either true h k = h refl
      either false h k = k refl

  -- a test that the change keeps is alike on the row before and after
  pub same_changed : {Q : Type 0} (f : R → Q) (x : R) → (test x ≡ true → f (change x) ≡ f x) → f (changed x) ≡ f x
  same_changed f x keep = either (test x) keep
    where
      either : (b : Bool) → (b ≡ true → f (change x) ≡ f x) → f (cond b (change x) x) ≡ f x
      either true h = h refl
      either false h = refl

  -- where no row passes the test, nothing changes
  pub change_none : (xs : List R) → list_any test xs ≡ false → change_where test change xs ≡ xs
  change_none [] h = refl
  change_none (x ∷ xs) h =
      rw (or_false_first (test x) (list_any test xs) h, change_none xs (or_false_second (test x) (list_any test xs) h)) refl

  -- each row passes after the change: those that are changed, and the others
  pub each_change : (p q : R → Bool) → ((x : R) → test x ≡ true → p x ≡ true → q (change x) ≡ true) → ((x : R) → test x ≡ false → p x ≡ true → q x ≡ true)
      → (xs : List R) → Each p xs → Each q (change_where test change xs)
  each_change p q give keep [] h = refl
  each_change p q give keep (x ∷ xs) h =
      each_cons q (changed x) (change_where test change xs)
      (passes_changed q x (λ e. give x e (each_head p x xs h)) (λ e. keep x e (each_head p x xs h)))
      (each_change p q give keep xs (each_tail p x xs h))

  -- each row passes the same test after the change
  pub each_change_same : (p : R → Bool) → ((x : R) → test x ≡ true → p x ≡ true → p (change x) ≡ true) → (xs : List R) → Each p xs
      → Each p (change_where test change xs)
  each_change_same p give = each_change p p give (λ x e h. h)

  -- some row passes after the change if some row did before
  any_changed : (p q : R → Bool) (x : R) (xs : List R) (b : Bool) → p x ≡ b → (b || list_any p xs) ≡ true → (p x ≡ true → q (changed x) ≡ true)
      → (list_any p xs ≡ true → list_any q (change_where test change xs) ≡ true) → list_any q (change_where test change (x ∷ xs)) ≡ true
  any_changed p q x xs true e h give ih = or_first (list_any q (change_where test change xs)) (give e)
  any_changed p q x xs false e h give ih = or_second (q (changed x)) (ih h)

  pub any_change : (p q : R → Bool) → ((x : R) → test x ≡ true → p x ≡ true → q (change x) ≡ true) → ((x : R) → test x ≡ false → p x ≡ true → q x ≡ true)
      → (xs : List R) → list_any p xs ≡ true → list_any q (change_where test change xs) ≡ true
  any_change p q give keep [] h = cc
  any_change p q give keep (x ∷ xs) h =
      any_changed p q x xs (p x) refl h (λ k. passes_changed q x (λ e. give x e k) (λ e. keep x e k)) (any_change p q give keep xs)

  -- some row passes the same test after the change, by what each row passes
  pub any_change_where : (a p : R → Bool) → ((x : R) → a x ≡ true → test x ≡ true → p x ≡ true → p (change x) ≡ true) → (xs : List R) → Each a xs
      → list_any p xs ≡ true → list_any p (change_where test change xs) ≡ true
  any_change_where a p give xs k h =
      any_change (λ x. a x && p x) p
      (λ x t e. give x (and_first (a x) (p x) e) t (and_second (a x) (p x) e))
      (λ x t e. and_second (a x) (p x) e) xs
      (any_weaker_where a p (λ x. a x && p x) (λ x e m. and_true e m) xs k h)

  -- a test that the change keeps: some row passes after it just if some row did before
  pub any_change_same : (p : R → Bool) → ((x : R) → test x ≡ true → p (change x) ≡ p x) → (xs : List R)
      → list_any p (change_where test change xs) ≡ list_any p xs
  any_change_same p keep [] = refl
  any_change_same p keep (x ∷ xs) = rw (same_changed p x (keep x), any_change_same p keep xs) refl

  -- a test that the change keeps: the same row is found, changed
  found_changed : (p : R → Bool) (x : R) (later rest : Option R) (b : Bool) → later ≡ option_map changed rest
      → cond b (Some (changed x)) later ≡ option_map changed (cond b (Some x) rest)
  found_changed p x later rest true h = refl
  found_changed p x later rest false h = h

  pub find_change : (p : R → Bool) → ((x : R) → test x ≡ true → p (change x) ≡ p x) → (xs : List R)
      → find p (change_where test change xs) ≡ option_map changed (find p xs)
  find_change p keep [] = refl
  find_change p keep (x ∷ xs) =
      rw (same_changed p x (keep x))
      (found_changed p x (find p (change_where test change xs)) (find p xs) (p x) (find_change p keep xs))

module _ {R : Type 0} where
  -- tests that are alike on each row of the list change the same rows
  pub change_agree_where : (a p q : R → Bool) (change : R → R) → ((x : R) → a x ≡ true → p x ≡ q x) → (xs : List R) → Each a xs
      → change_where p change xs ≡ change_where q change xs
  change_agree_where a p q change agree [] h = refl
  change_agree_where a p q change agree (x ∷ xs) h =
      rw (agree x (each_head a x xs h), change_agree_where a p q change agree xs (each_tail a x xs h)) refl
