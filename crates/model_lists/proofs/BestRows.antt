-- The row that comes before the others, found in one pass: what is the best so far, and then the best of the others.
use Rattle.std.proofs.Common.{◌≡◌, ℤ, pos, negsuc, int_lt, Bool, true, false, List, ◌∷◌, Option, Some, None, cond, refl, arith}
use Rattle.std.specs.List.{filter}
use Rattle.std.proofs.lemmas.Bool.Decides.{nat_tests}
use Rattle.batch_model.specs.Finding.{best, only_if}
use Rattle.batch_model.specs.Placing.{is_above}
use Rattle.batch_model.specs.Variants.{JobRow}

module _ {R : Type 0} (before : R → R → Bool) where
  -- the first of two, if there is one, unless the second comes before it
  abbrev pub leading : Option R → Option R → Option R
  leading None other = other
  leading (Some row) None = Some row
  leading (Some row) (Some other) = cond (before other row) (Some other) (Some row)

  -- the best of rows is the first one, or the best of the others
  pub best_first_row : (row : R) (rows : List R) → best before (row ∷ rows) ≡ leading (Some row) (best before rows)
  best_first_row row rows = by_others (best before rows) refl
    where
      by_others : (o : Option R) → best before rows ≡ o → best before (row ∷ rows) ≡ leading (Some row) o
      by_others None e = rw e refl
      by_others (Some other) e = rw e refl

  -- the same of the rows that pass a test
  pub best_passing : (test : R → Bool) (row : R) (rows : List R)
      → best before (filter test (row ∷ rows)) ≡ leading (only_if (test row) (Some row)) (best before (filter test rows))
  best_passing test row rows = by_test (test row)
    where
      by_test : (b : Bool) → best before (cond b (row ∷ filter test rows) (filter test rows)) ≡ leading (only_if b (Some row)) (best before (filter test rows))
      by_test true = best_first_row row (filter test rows)
      by_test false = refl

  -- of three the best is found from either side, if the order allows
  module _ (trans : (a b c : R) → before b a ≡ true → before c b ≡ true → before c a ≡ true)
      (under : (a b c : R) → before b a ≡ false → before c b ≡ false → before c a ≡ false) where
    three : (a b c : R) (ba cb ca : Bool) → before b a ≡ ba → before c b ≡ cb → before c a ≡ ca
        → leading (cond ba (Some b) (Some a)) (Some c) ≡ leading (Some a) (cond cb (Some c) (Some b))
    three a b c true true true e f g = rw (f, g) refl
    three a b c true true false e f g = let n : before c a ≡ true = trans a b c e f in cc
    three a b c true false ca e f g = rw (e, f) refl
    three a b c false true ca e f g = refl
    three a b c false false true e f g = let n : before c a ≡ false = under a b c e f in cc
    three a b c false false false e f g = rw (e, g) refl

    pub leading_joined : (a b c : Option R) → leading (leading a b) c ≡ leading a (leading b c)
    leading_joined None b c = refl
    leading_joined (Some a) None c = refl
    leading_joined (Some a) (Some b) None = none (before b a)
      where
        none : (t : Bool) → leading (cond t (Some b) (Some a)) None ≡ cond t (Some b) (Some a)
        none true = refl
        none false = refl
    leading_joined (Some a) (Some b) (Some c) = three a b c (before b a) (before c b) (before c a) refl refl refl

-- integers

below_all : (x y z : ℤ) → int_lt x y ≡ true → int_lt y z ≡ true → int_lt x z ≡ true
below_all (pos a) (pos b) (pos c) h k = grind (arith, nat_tests)
below_all (pos a) (pos b) (negsuc c) h k = cc
below_all (pos a) (negsuc b) z h k = cc
below_all (negsuc a) (pos b) (pos c) h k = refl
below_all (negsuc a) (pos b) (negsuc c) h k = cc
below_all (negsuc a) (negsuc b) (pos c) h k = refl
below_all (negsuc a) (negsuc b) (negsuc c) h k = grind (arith, nat_tests)

not_below_all : (x y z : ℤ) → int_lt x y ≡ false → int_lt y z ≡ false → int_lt x z ≡ false
not_below_all (pos a) (pos b) (pos c) h k = grind (arith, nat_tests)
not_below_all (pos a) (pos b) (negsuc c) h k = refl
not_below_all (pos a) (negsuc b) (pos c) h k = cc
not_below_all (pos a) (negsuc b) (negsuc c) h k = refl
not_below_all (negsuc a) (pos b) z h k = cc
not_below_all (negsuc a) (negsuc b) (pos c) h k = cc
not_below_all (negsuc a) (negsuc b) (negsuc c) h k = grind (arith, nat_tests)

-- of the best job so far, the next one and the best of the others, by priority
pub jobs_joined : (a b c : Option JobRow) → leading is_above (leading is_above a b) c ≡ leading is_above a (leading is_above b c)
jobs_joined =
    leading_joined is_above (λ a b c h k. below_all a.priority b.priority c.priority h k)
    (λ a b c h k. not_below_all a.priority b.priority c.priority h k)
