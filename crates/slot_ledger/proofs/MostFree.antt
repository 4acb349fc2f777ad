-- A node is chosen if one fits.
use Rattle.std.proofs.Common.{◌≡◌, ℕ, Bool, true, false, ◌||◌, List, [], ◌∷◌, Option, Some, None, is_some, cond, filter, max, ◌+◌, ◌-◌, ◌&&◌, refl, sym, ◌∙◌, ap, arith}
use Rattle.std.specs.Prelude.{nat_le}
use Rattle.std.proofs.lemmas.Bool.Decides.{nat_tests}
use Rattle.std.specs.List.{list_any}
use Rattle.std.specs.Option.{option_map}
use Rattle.bt_rows.specs.declared.pool.Fill.{Fill}
use Rattle.slot_ledger.specs.Ledgers.{Entry, fits, precedes, best, chosen}

-- the best of a list and one more in front
alone : (before : Entry → Entry → Bool) (x : Entry) (xs : List Entry) → best before xs ≡ None → best before (x ∷ xs) ≡ Some x
alone before x xs h = rw h refl

beside : (before : Entry → Entry → Bool) (x y : Entry) (xs : List Entry) → best before xs ≡ Some y → best before (x ∷ xs) ≡ cond (before y x) (Some y) (Some x)
beside before x y xs h = rw h refl

one_of_two : (b : Bool) (x y : Entry) → is_some (cond b (Some y) (Some x)) ≡ true
one_of_two true x y = refl
one_of_two false x y = refl

best_some : (before : Entry → Entry → Bool) (x : Entry) (xs : List Entry) (o : Option Entry) → best before xs ≡ o → is_some (best before (x ∷ xs)) ≡ true
best_some before x xs None e = ap is_some (alone before x xs e)
best_some before x xs (Some y) e = ap is_some (beside before x y xs e) ∙ one_of_two (before y x) x y

module _ (before : Entry → Entry → Bool) (test : Entry → Bool) where
  kept_more : (x : Entry) (kept : List Entry) (any b : Bool) → is_some (best before kept) ≡ any → is_some (best before (cond b (x ∷ kept) kept)) ≡ (b || any)
  kept_more x kept any true h = best_some before x kept (best before kept) refl
  kept_more x kept any false h = h

  best_any : (xs : List Entry) → is_some (best before (filter test xs)) ≡ list_any test xs
  best_any [] = refl
  best_any (x ∷ xs) = kept_more x (filter test xs) (list_any test xs) (test x) (best_any xs)

some_mapped : {A B : Type 0} (f : A → B) (o : Option A) → is_some (option_map f o) ≡ is_some o
some_mapped f None = refl
some_mapped f (Some x) = refl

pub chosen_any : (entries : List Entry) (pool : List ℕ) (fill : Fill) (need : ℕ) → is_some (chosen entries pool fill need) ≡ list_any (fits pool need) entries
chosen_any entries pool fill need =
    some_mapped (λ (entry : Entry). entry.node) (best (precedes fill) (filter (fits pool need) entries)) ∙ best_any (precedes fill) (fits pool need) entries

pub fits_free : (b : Bool) (held need slots : ℕ) → (b && nat_le held slots) ≡ true → nat_le need (slots - held) ≡ (b && nat_le (held + need) slots)
fits_free true held need slots h = grind (arith, nat_tests)
fits_free false held need slots h = absurd (cc)

pub fits_none : (b : Bool) (held need slots : ℕ) → (b && nat_le held slots) ≡ false → false ≡ (b && nat_le (held + need) slots)
fits_none true held need slots h = grind (arith, nat_tests)
fits_none false held need slots h = refl

pub within_max : (need one other : ℕ) → nat_le need (max one other) ≡ (nat_le need one || nat_le need other)
within_max need one other = grind (arith, nat_tests)

pub within_first : (b : Bool) → b ≡ (b || false)
within_first true = refl
within_first false = refl
