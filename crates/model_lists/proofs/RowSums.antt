-- Sums and counts over rows, where a row is added and where rows change in place.
use Rattle.std.proofs.Common.{◌≡◌, ℕ, ◌+◌, ◌≤◌, ◌<◌, Bool, true, false, not, List, [], ◌∷◌, ◌++◌, Option, Some, cond, sum_by, count_by, refl, sym, ◌∙◌, subst}
use Rattle.std.proofs.Common.{arith}
use Rattle.std.specs.List.{filter, find}
use Rattle.std.proofs.lemmas.List.Sums.{sum_by-cons, sum_by_push}
use Rattle.batch_model.specs.Finding.{Each, change_where}
use Rattle.model_lists.proofs.Tests.{not_true}
use Rattle.model_lists.proofs.RowLists.{each_any, each_head, each_tail}
use Rattle.model_lists.proofs.ChangedRows.{changed, same_changed}

-- what is counted of a row that passes where another does
counts_at_most : (a b : Bool) → (a ≡ true → b ≡ true) → cond {A = ℕ} a 1 0 ≤ cond b 1 0
counts_at_most true true h = omega arith
counts_at_most true false h = let e : false ≡ true = h refl in cc
counts_at_most false true h = omega arith
counts_at_most false false h = omega arith

module _ {R : Type 0} where
  -- parts that are alike on each row of the list
  pub sum_agree_where : (a : R → Bool) (f g : R → ℕ) → ((x : R) → a x ≡ true → f x ≡ g x) → (xs : List R) → Each a xs → sum_by f xs ≡ sum_by g xs
  sum_agree_where a f g agree [] h = refl
  sum_agree_where a f g agree (x ∷ xs) h =
      rw (sum_by-cons f x xs, sum_by-cons g x xs, agree x (each_head a x xs h), sum_agree_where a f g agree xs (each_tail a x xs h)) refl

  -- parts that are alike on each row
  pub sum_agree : (f g : R → ℕ) → ((x : R) → f x ≡ g x) → (xs : List R) → sum_by f xs ≡ sum_by g xs
  sum_agree f g agree [] = refl
  sum_agree f g agree (x ∷ xs) = rw (sum_by-cons f x xs, sum_by-cons g x xs, agree x, sum_agree f g agree xs) refl

  -- parts none of which is more, on each row of the list
  pub sum_at_most_where : (a : R → Bool) (f g : R → ℕ) → ((x : R) → a x ≡ true → f x ≤ g x) → (xs : List R) → Each a xs → sum_by f xs ≤ sum_by g xs
  sum_at_most_where a f g less [] h = omega arith
  sum_at_most_where a f g less (x ∷ xs) h =
      let k : f x ≤ g x = less x (each_head a x xs h) in
      let m : sum_by f xs ≤ sum_by g xs = sum_at_most_where a f g less xs (each_tail a x xs h) in
      rw (sum_by-cons f x xs, sum_by-cons g x xs) (omega arith)

  -- an added row adds its part
  pub sum_append : (f : R → ℕ) (xs : List R) (x : R) → sum_by f (xs ++ x ∷ []) ≡ sum_by f xs + f x
  sum_append f xs x = sum_by_push f xs x

  -- an added row that passes counts one, and another nothing
  pub count_append : (p : R → Bool) (xs : List R) (x : R) → count_by p (xs ++ x ∷ []) ≡ count_by p xs + cond (p x) 1 0
  count_append p xs x = sum_by_push (λ y. cond {A = ℕ} (p y) 1 0) xs x

  -- none passes, so none is counted
  pub count_none : (p : R → Bool) (xs : List R) → Each (λ x. not (p x)) xs → count_by p xs ≡ 0
  count_none p [] h = refl
  count_none p (x ∷ xs) h =
      let first : p x ≡ false = not_true (p x) (each_head (λ y. not (p y)) x xs h) in
      let others : count_by p xs ≡ 0 = count_none p xs (each_tail (λ y. not (p y)) x xs h) in
      rw (sum_by-cons (λ y. cond {A = ℕ} (p y) 1 0) x xs, first, others) refl

  -- changes in place: the sum of the parts of changed rows
  pub sum_change : (test : R → Bool) (change : R → R) (f : R → ℕ) (xs : List R)
      → sum_by f (change_where test change xs) ≡ sum_by (λ x. f (changed test change x)) xs
  sum_change test change f [] = refl
  sum_change test change f (x ∷ xs) =
      rw (
        sum_by-cons f (changed test change x) (change_where test change xs),
        sum_by-cons (λ y. f (changed test change y)) x xs,
        sum_change test change f xs,
      ) refl

  -- changes in place that keep each part
  pub sum_change_same : (test : R → Bool) (change : R → R) (f : R → ℕ) → ((x : R) → test x ≡ true → f (change x) ≡ f x) → (xs : List R)
      → sum_by f (change_where test change xs) ≡ sum_by f xs
  sum_change_same test change f keep xs =
      sum_change test change f xs ∙ sum_agree (λ x. f (changed test change x)) f (λ x. same_changed test change f x (keep x)) xs

  -- changes in place that raise no part
  pub sum_change_at_most : (test : R → Bool) (change : R → R) (f g : R → ℕ) → ((x : R) → test x ≡ true → f (change x) ≤ g x)
      → ((x : R) → test x ≡ false → f x ≤ g x) → (xs : List R) → sum_by f (change_where test change xs) ≤ sum_by g xs
  sum_change_at_most test change f g less keep [] = omega arith
  sum_change_at_most test change f g less keep (x ∷ xs) =
      let k : f (changed test change x) ≤ g x = either (test x) (less x) (keep x) in
      let m : sum_by f (change_where test change xs) ≤ sum_by g xs = sum_change_at_most test change f g less keep xs in
      rw (sum_by-cons f (changed test change x) (change_where test change xs), sum_by-cons g x xs) (omega arith)
    where
      either : (b : Bool) → (b ≡ true → f (change x) ≤ g x) → (b ≡ false → f x ≤ g x) → f (cond b (change x) x) ≤ g x
      either true h n = h refl
      either false h n = n refl

  -- what is counted of a row after the change
  counts_changed : (test : R → Bool) (change : R → R) (p : R → Bool) (x : R) → (test x ≡ true → p (change x) ≡ true → p x ≡ true)
      → cond {A = ℕ} (p (changed test change x)) 1 0 ≤ cond (p x) 1 0
  counts_changed test change p x give = counts_at_most (p (changed test change x)) (p x) (either (test x) give)
    where
      either : (b : Bool) → (b ≡ true → p (change x) ≡ true → p x ≡ true) → p (cond b (change x) x) ≡ true → p x ≡ true
      either true h = h refl
      either false h = λ k. k

  -- changes in place after which no row passes that didn't
  pub count_change_at_most : (test : R → Bool) (change : R → R) (a p : R → Bool) → ((x : R) → a x ≡ true → test x ≡ true → p (change x) ≡ true → p x ≡ true)
      → (xs : List R) → Each a xs → count_by p (change_where test change xs) ≤ count_by p xs
  count_change_at_most test change a p give xs h =
      let k : count_by p (change_where test change xs) ≡ sum_by (λ x. cond {A = ℕ} (p (changed test change x)) 1 0) xs =
      sum_change test change (λ x. cond {A = ℕ} (p x) 1 0) xs in
      let m : sum_by (λ x. cond {A = ℕ} (p (changed test change x)) 1 0) xs ≤ count_by p xs =
      sum_at_most_where a (λ x. cond {A = ℕ} (p (changed test change x)) 1 0) (λ x. cond {A = ℕ} (p x) 1 0)
      (λ x e. counts_changed test change p x (give x e)) xs h
      in
      rw k m

  -- a sum over the rows that pass is one over all rows, to which the others add nothing
  pub sum_filter : (p : R → Bool) (f : R → ℕ) (xs : List R) → sum_by f (filter p xs) ≡ sum_by (λ x. cond (p x) (f x) 0) xs
  sum_filter p f [] = refl
  sum_filter p f (x ∷ xs) = rw (sum_by-cons (λ y. cond (p y) (f y) 0) x xs) (either (p x) (sum_filter p f xs))
    where
      either : (b : Bool) → sum_by f (filter p xs) ≡ sum_by (λ y. cond (p y) (f y) 0) xs
          → sum_by f (cond b (x ∷ filter p xs) (filter p xs)) ≡ cond b (f x) 0 + sum_by (λ y. cond (p y) (f y) 0) xs
      either true h = rw (sum_by-cons f x (filter p xs), h) refl
      either false h = rw h (omega arith)

  -- a part that is less at the row that a search finds, and more nowhere
  less_found : (f g : R → ℕ) (y x : R) (ys : List R) (rest : Option R) (b : Bool) → cond b (Some y) rest ≡ Some x → f y ≤ g y → f x < g x
      → sum_by f ys ≤ sum_by g ys → (rest ≡ Some x → sum_by f ys < sum_by g ys) → sum_by f (y ∷ ys) < sum_by g (y ∷ ys)
  less_found f g y x ys rest true e some less all ih =
      let i : y ≡ x = cc in
      let k : f y < g y = subst (λ z. f z < g z) (sym i) less in
      rw (sum_by-cons f y ys, sum_by-cons g y ys) (omega arith)
  less_found f g y x ys rest false e some less all ih =
      let k : sum_by f ys < sum_by g ys = ih e in
      rw (sum_by-cons f y ys, sum_by-cons g y ys) (omega arith)

  pub sum_less_where : (a : R → Bool) (f g : R → ℕ) → ((x : R) → a x ≡ true → f x ≤ g x) → (test : R → Bool) (x : R) (xs : List R) → Each a xs
      → find test xs ≡ Some x → f x < g x → sum_by f xs < sum_by g xs
  sum_less_where a f g at_most test x [] h e less = cc
  sum_less_where a f g at_most test x (y ∷ ys) h e less =
      less_found f g y x ys (find test ys) (test y) e (at_most y (each_head a y ys h)) less
      (sum_at_most_where a f g at_most ys (each_tail a y ys h))
      (λ k. sum_less_where a f g at_most test x ys (each_tail a y ys h) k less)

  -- changes in place after which a row that was found doesn't pass any more, and no row passes that didn't
  pub count_found_less : (test : R → Bool) (change : R → R) (p : R → Bool) → ((x : R) → test x ≡ true → p (change x) ≡ true → p x ≡ true)
      → (seek : R → Bool) (x : R) (xs : List R) → find seek xs ≡ Some x → test x ≡ true → p x ≡ true → p (change x) ≡ false
      → count_by p (change_where test change xs) < count_by p xs
  count_found_less test change p give seek x xs found here before after =
      let k : count_by p (change_where test change xs) ≡ sum_by (λ y. cond {A = ℕ} (p (changed test change y)) 1 0) xs =
      sum_change test change (λ y. cond {A = ℕ} (p y) 1 0) xs in
      let m : sum_by (λ y. cond {A = ℕ} (p (changed test change y)) 1 0) xs < count_by p xs =
      sum_less_where (λ y. true) (λ y. cond {A = ℕ} (p (changed test change y)) 1 0) (λ y. cond {A = ℕ} (p y) 1 0)
      (λ y e. counts_changed test change p y (give y)) seek x xs
      (each_any (λ y. true) (λ y. refl) xs) found (rw (here, after, before) (omega arith))
      in
      rw k m

  -- so too if it was found as one that changes
  pub count_change_less : (test : R → Bool) (change : R → R) (p : R → Bool) → ((x : R) → test x ≡ true → p (change x) ≡ true → p x ≡ true)
      → (x : R) (xs : List R) → find test xs ≡ Some x → test x ≡ true → p x ≡ true → p (change x) ≡ false
      → count_by p (change_where test change xs) < count_by p xs
  count_change_less test change p give x xs found here before after = count_found_less test change p give test x xs found here before after
