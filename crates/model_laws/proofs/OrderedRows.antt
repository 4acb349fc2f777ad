-- Rows in order: the first that passes a test is the best of those that pass it.
use Rattle.std.proofs.Common.{◌≡◌, Bool, true, false, not, List, [], ◌∷◌, ◌++◌, map, Option, Some, None, cond, is_some, option_and_then, refl, sym, ◌∙◌, ap}
use Rattle.std.specs.List.{find, filter}
use Rattle.std.specs.Prelude.{flat_map}
use Rattle.batch_model.specs.Finding.{Each, best, or_else, find_map, only_if}
use Rattle.model_laws.specs.Order.{put_in, in_order}
use Rattle.model_lists.proofs.BestRows.{leading, best_passing}
use Rattle.model_lists.proofs.RowLists.{each_cons, each_head, each_tail, each_weaker, each_found}
use Rattle.model_lists.proofs.Tests.{not_true, true_not}

module _ {R : Type 0} (before : R → R → Bool) (one_way : (a b : R) → before a b ≡ true → before b a ≡ false)
    (under : (a b c : R) → before a b ≡ false → before b c ≡ false → before a c ≡ false) where
  -- no row comes before an earlier one
  abbrev IsSorted : List R → Type 0
  IsSorted [] = Unit {0}
  IsSorted (row ∷ rows) = Each (λ other. not (before other row)) rows × IsSorted rows

  each_put : (p : R → Bool) (row : R) (rows : List R) → p row ≡ true → Each p rows → Each p (put_in before row rows)
  each_put p row [] h e = each_cons p row [] h e
  each_put p row (other ∷ others) h e = by_test (each_put p row others h (each_tail p other others e)) (before other row)
    where
      by_test : Each p (put_in before row others) → (b : Bool) → Each p (cond b (other ∷ put_in before row others) (row ∷ other ∷ others))
      by_test ih true = each_cons p other (put_in before row others) (each_head p other others e) ih
      by_test ih false = each_cons p row (other ∷ others) h e

  -- no row behind comes before one in front of which another does not
  none_before : (row other : R) (others : List R) → before other row ≡ false → IsSorted (other ∷ others)
      → Each (λ x. not (before x row)) (other ∷ others)
  none_before row other others e s =
      each_cons (λ x. not (before x row)) other others (true_not e)
      (each_weaker (λ x. not (before x other)) (λ x. not (before x row))
      (λ x n. true_not (under x other row (not_true (before x other) n) e)) others s.0)

  sorted_put : (row : R) (rows : List R) → IsSorted rows → IsSorted (put_in before row rows)
  sorted_put row [] s = (refl, tt)
  sorted_put row (other ∷ others) s = by_test (sorted_put row others s.1) (before other row) refl
    where
      by_test : IsSorted (put_in before row others) → (b : Bool) → before other row ≡ b
          → IsSorted (cond b (other ∷ put_in before row others) (row ∷ other ∷ others))
      by_test ih true e = (each_put (λ x. not (before x other)) row others (true_not (one_way other row e)) s.0, ih)
      by_test ih false e = (none_before row other others e s, s)

  all_sorted : (rows : List R) → IsSorted (in_order before rows)
  all_sorted [] = tt
  all_sorted (row ∷ rows) = sorted_put row (in_order before rows) (all_sorted rows)

  module _ (test : R → Bool) where
    -- a row that passes is found, or one that comes before it
    find_passing : (row : R) (rows : List R) → test row ≡ true → IsSorted rows
        → find test (put_in before row rows) ≡ leading before (Some row) (find test rows)
    find_passing row [] h s = rw h refl
    find_passing row (other ∷ others) h s = by_order (find_passing row others h s.1) (before other row) refl
      where
        in_front : (o : Option R) → before other row ≡ false → find test (other ∷ others) ≡ o → Some row ≡ leading before (Some row) o
        in_front None e f = refl
        in_front (Some x) e f =
            let n : before x row ≡ false =
            not_true (before x row) (each_found (λ y. not (before y row)) test x (other ∷ others) f (none_before row other others e s))
            in
            rw n refl

        behind : find test (put_in before row others) ≡ leading before (Some row) (find test others) → (b : Bool) → before other row ≡ true
            → cond b (Some other) (find test (put_in before row others)) ≡ leading before (Some row) (cond b (Some other) (find test others))
        behind ih true e = rw e refl
        behind ih false e = ih

        by_order : find test (put_in before row others) ≡ leading before (Some row) (find test others) → (b : Bool) → before other row ≡ b
            → find test (cond b (other ∷ put_in before row others) (row ∷ other ∷ others)) ≡ leading before (Some row) (find test (other ∷ others))
        by_order ih true e = behind ih (test other) e
        by_order ih false e =
            ap (λ b. cond b (Some row) (find test (other ∷ others))) h ∙ in_front (find test (other ∷ others)) e refl

    -- one that does not pass changes nothing
    find_failing : (row : R) (rows : List R) → test row ≡ false → find test (put_in before row rows) ≡ find test rows
    find_failing row [] h = rw h refl
    find_failing row (other ∷ others) h = by_order (find_failing row others h) (before other row)
      where
        by_order : find test (put_in before row others) ≡ find test others → (b : Bool)
            → find test (cond b (other ∷ put_in before row others) (row ∷ other ∷ others)) ≡ find test (other ∷ others)
        by_order ih true = ap (cond (test other) (Some other)) ih
        by_order ih false = ap (λ b. cond b (Some row) (find test (other ∷ others))) h

    -- the first row in order that passes is the best of those that pass
    pub first_is_best : (rows : List R) → find test (in_order before rows) ≡ best before (filter test rows)
    first_is_best [] = refl
    first_is_best (row ∷ rows) = by_test (first_is_best rows) (test row) refl
      where
        by_test : find test (in_order before rows) ≡ best before (filter test rows) → (b : Bool) → test row ≡ b
            → find test (put_in before row (in_order before rows)) ≡ best before (filter test (row ∷ rows))
        by_test ih true h =
            find_passing row (in_order before rows) h (all_sorted rows)
            ∙ ap (leading before (Some row)) ih
            ∙ sym
            (best_passing before test row rows ∙ ap (λ b. leading before (only_if b (Some row)) (best before (filter test rows))) h)
        by_test ih false h =
            find_failing row (in_order before rows) h
            ∙ ih
            ∙ sym
            (best_passing before test row rows ∙ ap (λ b. leading before (only_if b (Some row)) (best before (filter test rows))) h)

-- what rows give

module _ {A B : Type 0} where
  -- the first row that gives something, and what it gives
  pub first_given : (give : A → Option B) (rows : List A) → find_map give rows ≡ option_and_then give (find (λ row. is_some (give row)) rows)
  first_given give [] = refl
  first_given give (row ∷ rows) = by_row (first_given give rows) (give row) refl
    where
      by_row : find_map give rows ≡ option_and_then give (find (λ other. is_some (give other)) rows) → (o : Option B) → give row ≡ o
          → or_else o (find_map give rows) ≡ option_and_then give (cond (is_some o) (Some row) (find (λ other. is_some (give other)) rows))
      by_row ih None e = ih
      by_row ih (Some x) e = sym e

  pub given_agree : (f g : A → Option B) → ((x : A) → f x ≡ g x) → (rows : List A) → find_map f rows ≡ find_map g rows
  given_agree f g h [] = refl
  given_agree f g h (row ∷ rows) = rw (h row, given_agree f g h rows) refl

  -- of two lists
  given_joined : (g : A → Option B) (rows others : List A) → find_map g (rows ++ others) ≡ or_else (find_map g rows) (find_map g others)
  given_joined g [] others = refl
  given_joined g (row ∷ rows) others = by_row (given_joined g rows others) (g row)
    where
      by_row : find_map g (rows ++ others) ≡ or_else (find_map g rows) (find_map g others) → (o : Option B)
          → or_else o (find_map g (rows ++ others)) ≡ or_else (or_else o (find_map g rows)) (find_map g others)
      by_row ih None = ih
      by_row ih (Some x) = refl

  -- of rows that pass a test
  pub given_passing : (g : A → Option B) (test : A → Bool) (rows : List A) → find_map g (filter test rows) ≡ find_map (λ row. only_if (test row) (g row)) rows
  given_passing g test [] = refl
  given_passing g test (row ∷ rows) = by_row (given_passing g test rows) (test row)
    where
      by_row : find_map g (filter test rows) ≡ find_map (λ other. only_if (test other) (g other)) rows → (b : Bool)
          → find_map g (cond b (row ∷ filter test rows) (filter test rows))
          ≡ or_else (only_if b (g row)) (find_map (λ other. only_if (test other) (g other)) rows)
      by_row ih true = ap (or_else (g row)) ih
      by_row ih false = ih

  -- of rows that give nothing
  abbrev pub nothing : A → Option B
  nothing row = None

  pub none_given : (rows : List A) → find_map nothing rows ≡ None
  none_given [] = refl
  none_given (row ∷ rows) = none_given rows

  -- under a condition
  pub given_if : (b : Bool) (g : A → Option B) (rows : List A) → only_if b (find_map g rows) ≡ find_map (λ row. only_if b (g row)) rows
  given_if true g rows = refl
  given_if false g rows = sym (none_given rows)

module _ {A B C : Type 0} where
  -- of rows that are made of others
  pub given_of_made : (g : B → Option C) (f : A → B) (rows : List A) → find_map g (map f rows) ≡ find_map (λ row. g (f row)) rows
  given_of_made g f [] = refl
  given_of_made g f (row ∷ rows) = ap (or_else (g (f row))) (given_of_made g f rows)

  -- of the lists that others give, one after the other
  pub given_of_lists : (g : B → Option C) (f : A → List B) (rows : List A) → find_map g (flat_map f rows) ≡ find_map (λ row. find_map g (f row)) rows
  given_of_lists g f [] = refl
  given_of_lists g f (row ∷ rows) = given_joined g (f row) (flat_map f rows) ∙ ap (or_else (find_map g (f row))) (given_of_lists g f rows)
