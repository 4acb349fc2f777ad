-- Sums and tests over places that have all rows that count.
use Rattle.std.proofs.Common.{◌≡◌, ℕ, zero, suc, ◌+◌, ◌<◌, Bool, true, false, ◌||◌, nat_eq, List, [], ◌∷◌}
use Rattle.std.proofs.Common.{length, slice_index_or, set, sum_by, Option, Some, None, refl, sym, ap, ◌∙◌, ⊎_elim, arith}
use Rattle.std.specs.List.{AllByRecursion, Contains, IsDistinct, list_any}
use Rattle.std.proofs.lemmas.Bool.{cases_Bool, cases_eq, eqb-false, ne_eqb}
use Rattle.std.proofs.lemmas.List.Sums.{sum_by-cons}
use Rattle.std.proofs.lemmas.Map.Keys.{IsDistinct-head, IsDistinct-tail, IsDistinct-cons}
use Rattle.kept_table.specs.Slots.{slot_at, rows, holds}
use Rattle.text_chains.specs.Places.{value_of, HasValues, HasPassing, AreCovered}

-- a place of a list
pub contained_first : (place : ℕ) (places : List ℕ) → Contains (place ∷ places) place
contained_first place places = (0, omega arith, refl)

pub contained_later : (first : ℕ) (places : List ℕ) (place : ℕ) → Contains places place → Contains (first ∷ places) place
contained_later first places place c = let l = c.1 in (suc c.0, omega arith, c.2)

pub contained_rest : (first : ℕ) (places : List ℕ) (place : ℕ) → (place ≡ first → ⊥) → Contains (first ∷ places) place → Contains places place
contained_rest first places place h c = at c.0 c.1 c.2
  where
    at : (k : ℕ) → k < length (first ∷ places) → slice_index_or (first ∷ places) k place ≡ place → Contains places place
    at zero l e = absurd (h (sym e))
    at (suc k) l e = (k, omega arith, e)

-- a new place before different ones
pub distinct_add : (place : ℕ) (places : List ℕ) → (Contains places place → ⊥) → IsDistinct nat_eq places → IsDistinct nat_eq (place ∷ places)
distinct_add place places new distinct = IsDistinct-cons nat_eq place places (others places new) distinct
  where
    others : (rest : List ℕ) → (Contains rest place → ⊥) → AllByRecursion (λ other. nat_eq place other ≡ false) rest
    others [] h = tt
    others (other ∷ rest) h = (
      ne_eqb place other (λ e. h (0, omega arith, sym e)),
      others rest (λ c. h (contained_later other rest place c)),
    )

no_more : (n : ℕ) → (0 < n → ⊥) → n ≡ 0
no_more zero h = refl
no_more (suc n) h = absurd (h (omega arith))

or_first : (a b x y : Bool) → x ≡ (a || y) → (b || x) ≡ (a || (b || y))
or_first true true x y h = refl
or_first true false x y h = h
or_first false true x y h = refl
or_first false false x y h = h

module _ {R : Type 0} where
  free_here : (slots : List (Option R)) (at : ℕ) → slot_at (set slots at None) at ≡ None
  free_here [] at = refl
  free_here (slot ∷ slots) zero = refl
  free_here (slot ∷ slots) (suc at) = free_here slots at

  free_other : (slots : List (Option R)) (at other : ℕ) → (other ≡ at → ⊥) → slot_at (set slots at None) other ≡ slot_at slots other
  free_other [] at other h = refl
  free_other (slot ∷ slots) zero zero h = absurd (h refl)
  free_other (slot ∷ slots) zero (suc other) h = refl
  free_other (slot ∷ slots) (suc at) zero h = refl
  free_other (slot ∷ slots) (suc at) (suc other) h = free_other slots at other (λ e. h (ap suc e))

  -- a row that is still there is at another place
  still : (slots : List (Option R)) (at place : ℕ) (row : R) → slot_at (set slots at None) place ≡ Some row
      → (place ≡ at → ⊥) × (slot_at slots place ≡ Some row)
  still slots at place row is =
      let other : place ≡ at → ⊥ = λ e. none_some (sym (free_here slots at) ∙ ap (slot_at (set slots at None)) (sym e) ∙ is) in
      (other, sym (free_other slots at place other) ∙ is)
    where
      none_some : {x : R} → None ≡ Some x → ⊥
      none_some p = cc

  module _ (f : R → ℕ) where
    sum_free : (slots : List (Option R)) (at : ℕ) → sum_by f (rows slots) ≡ value_of f (slot_at slots at) + sum_by f (rows (set slots at None))
    sum_free [] at = refl
    sum_free (None ∷ slots) zero = omega arith
    sum_free (Some row ∷ slots) zero = sum_by-cons f row (rows slots)
    sum_free (None ∷ slots) (suc at) = sum_free slots at
    sum_free (Some row ∷ slots) (suc at) =
        let a = sum_by-cons f row (rows slots) in
        let b = sum_by-cons f row (rows (set slots at None)) in
        let c = sum_free slots at in
        omega (arith, a, b, c)

    sum_none : (slots : List (Option R)) → ((place : ℕ) (row : R) → slot_at slots place ≡ Some row → 0 < f row → ⊥) → sum_by f (rows slots) ≡ 0
    sum_none [] h = refl
    sum_none (None ∷ slots) h = sum_none slots (λ place row is. h (suc place) row is)
    sum_none (Some row ∷ slots) h =
        let a = sum_by-cons f row (rows slots) in
        let b = no_more (f row) (h 0 row refl) in
        let c = sum_none slots (λ place other is. h (suc place) other is) in
        omega (arith, a, b, c)

    sum_other : (slots : List (Option R)) (at : ℕ) (places : List ℕ) → AllByRecursion (λ place. nat_eq at place ≡ false) places
        → sum_by (λ place. value_of f (slot_at slots place)) places ≡ sum_by (λ place. value_of f (slot_at (set slots at None) place)) places
    sum_other slots at [] h = refl
    sum_other slots at (place ∷ places) h =
        let a = sum_by-cons (λ place. value_of f (slot_at slots place)) place places in
        let b = sum_by-cons (λ place. value_of f (slot_at (set slots at None) place)) place places in
        let c = sum_other slots at places h.1 in
        let d = ap (value_of f) (free_other slots at place (λ e. eqb-false at place h.0 (sym e))) in
        omega (arith, a, b, c, d)

    pub sums_covered : (slots : List (Option R)) (places : List ℕ) → IsDistinct nat_eq places → HasValues f slots places
        → sum_by (λ place. value_of f (slot_at slots place)) places ≡ sum_by f (rows slots)
    sums_covered slots [] distinct has = sym (sum_none slots (λ place row is more. let l = (has place row is more).1 in omega arith))
    sums_covered slots (at ∷ places) distinct has =
        sum_by-cons (λ place. value_of f (slot_at slots place)) at places
        ∙ ap (λ (n : ℕ). value_of f (slot_at slots at) + n)
        (sum_other slots at places (IsDistinct-head nat_eq at places distinct)
        ∙ sums_covered (set slots at None) places (IsDistinct-tail nat_eq at places distinct)
        (λ place row is more. let s = still slots at place row is in contained_rest at places place s.0 (has place row s.1 more)))
        ∙ sym (sum_free slots at)

  module _ (test : R → Bool) where
    any_free : (slots : List (Option R)) (at : ℕ) → list_any test (rows slots) ≡ (holds test (slot_at slots at) || list_any test (rows (set slots at None)))
    any_free [] at = refl
    any_free (None ∷ slots) zero = refl
    any_free (Some row ∷ slots) zero = refl
    any_free (None ∷ slots) (suc at) = any_free slots at
    any_free (Some row ∷ slots) (suc at) =
        or_first (holds test (slot_at slots at)) (test row) (list_any test (rows slots)) (list_any test (rows (set slots at None))) (any_free slots at)

    any_none : (slots : List (Option R)) → ((place : ℕ) (row : R) → slot_at slots place ≡ Some row → test row ≡ true → ⊥) → list_any test (rows slots) ≡ false
    any_none [] h = refl
    any_none (None ∷ slots) h = any_none slots (λ place row is. h (suc place) row is)
    any_none (Some row ∷ slots) h =
        ⊎_elim (λ (e : test row ≡ true). absurd (h 0 row refl e))
        (λ (e : test row ≡ false). ap (λ (b : Bool). b || list_any test (rows slots)) e ∙ any_none slots (λ place other is. h (suc place) other is))
        (cases_Bool (test row))

    any_alike : (slots others : List (Option R)) (places : List ℕ) → ((place : ℕ) → holds test (slot_at slots place) ≡ holds test (slot_at others place))
        → list_any (λ place. holds test (slot_at slots place)) places ≡ list_any (λ place. holds test (slot_at others place)) places
    any_alike slots others [] h = refl
    any_alike slots others (place ∷ places) h =
        ap (λ (b : Bool). b || list_any (λ place. holds test (slot_at slots place)) places) (h place)
        ∙ ap (λ (b : Bool). holds test (slot_at others place) || b) (any_alike slots others places h)

    fails_alike : (slots : List (Option R)) (at : ℕ) → holds test (slot_at slots at) ≡ false
        → (place : ℕ) → holds test (slot_at slots place) ≡ holds test (slot_at (set slots at None) place)
    fails_alike slots at fails place =
        ⊎_elim
        (λ (e : place ≡ at).
        ap (λ (k : ℕ). holds test (slot_at slots k)) e ∙ fails
        ∙ sym (ap (holds test) (ap (slot_at (set slots at None)) e ∙ free_here slots at)))
        (λ (e : place ≡ at → ⊥). ap (holds test) (sym (free_other slots at place e)))
        (cases_eq place at)

    pub any_covered : (slots : List (Option R)) (places : List ℕ) → HasPassing test slots places
        → list_any (λ place. holds test (slot_at slots place)) places ≡ list_any test (rows slots)
    any_covered slots [] has = sym (any_none slots (λ place row is passes. let l = (has place row is passes).1 in omega arith))
    any_covered slots (at ∷ places) has =
        ⊎_elim
        (λ (e : holds test (slot_at slots at) ≡ true).
        ap (λ (b : Bool). b || list_any (λ place. holds test (slot_at slots place)) places) e
        ∙ sym (any_free slots at ∙ ap (λ (b : Bool). b || list_any test (rows (set slots at None))) e))
        (λ (e : holds test (slot_at slots at) ≡ false).
        ap (λ (b : Bool). holds test (slot_at slots at) || b)
        (any_alike slots (set slots at None) places (fails_alike slots at e)
        ∙ any_covered (set slots at None) places
        (λ place row is passes. let s = still slots at place row is in contained_rest at places place s.0 (has place row s.1 passes)))
        ∙ sym (any_free slots at))
        (cases_Bool (holds test (slot_at slots at)))

pub are_covered : (R : Type 0) → AreCovered R
are_covered R = record {
  sums = λ f. sums_covered f;
  any = λ test. any_covered test;
}
