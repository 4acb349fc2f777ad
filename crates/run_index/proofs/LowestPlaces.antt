-- The lowest of places with all rows that pass is that of the first row that passes.
use Rattle.std.proofs.Common.{◌≡◌, ℕ, zero, suc, ◌≤◌, Bool, true, false, min, List, [], ◌∷◌, Option, Some, None, refl, sym, ap, subst, ◌∙◌, ⊎_elim, arith}
use Rattle.std.specs.List.{Contains}
use Rattle.std.proofs.lemmas.Bool.{cases_Bool, cases_eq, cond-true, cond-false, true≢false}
use Rattle.kept_table.specs.Slots.{slot_at, holds, place_of}
use Rattle.kept_table.proofs.PlacesOf.{not_here, here, behind}
use Rattle.text_chains.specs.Places.{HasPassing}
use Rattle.text_chains.proofs.Covered.{contained_rest}
use Rattle.run_index.specs.Attempts.{lower, lowest_from}

-- the place is at most the one that there is
abbrev pub AtMost : ℕ → Option ℕ → Type 0
AtMost k None = Unit {0}
AtMost k (Some least) = k ≤ least

lower_of : (k : ℕ) (least : Option ℕ) → AtMost k least → lower least k ≡ k
lower_of k None h = refl
lower_of k (Some least) h = omega (arith, h)

lower_most : (k place : ℕ) (least : Option ℕ) → AtMost k least → k ≤ place → k ≤ lower least place
lower_most k place None h l = l
lower_most k place (Some least) h l = omega (arith, h)

pub lowest_none : (test : ℕ → Bool) (least : Option ℕ) (places : List ℕ) → ((place : ℕ) → test place ≡ false) → lowest_from test least places ≡ least
lowest_none test least [] h = refl
lowest_none test least (place ∷ places) h =
    ap (λ (o : Option ℕ). lowest_from test o places) (cond-false (test place) (Some (lower least place)) least (h place)) ∙ lowest_none test least places h

module _ (test : ℕ → Bool) (k : ℕ) (passes : test k ≡ true) (first : (place : ℕ) → test place ≡ true → k ≤ place) where
  stays : (places : List ℕ) → lowest_from test (Some k) places ≡ Some k
  stays [] = refl
  stays (place ∷ places) =
      ap (λ (o : Option ℕ). lowest_from test o places)
      (⊎_elim
      (λ (e : test place ≡ true).
      let l = first place e in
      let least : min k place ≡ k = omega (arith, l) in
      cond-true (test place) (Some (min k place)) (Some k) e ∙ ap (λ (n : ℕ). Some n) least)
      (λ (e : test place ≡ false). cond-false (test place) (Some (min k place)) (Some k) e)
      (cases_Bool (test place)))
      ∙ stays places

  pub lowest_is : (least : Option ℕ) (places : List ℕ) → AtMost k least → Contains places k → lowest_from test least places ≡ Some k
  lowest_is least [] h c = let l = c.1 in absurd (omega arith)
  lowest_is least (place ∷ places) h c =
      ⊎_elim
      (λ (e : k ≡ place).
      let is : test place ≡ true = subst (λ (p : ℕ). test p ≡ true) e passes in
      ap (λ (o : Option ℕ). lowest_from test o places)
      (cond-true (test place) (Some (lower least place)) least is
      ∙ ap (λ (p : ℕ). Some (lower least p)) (sym e) ∙ ap (λ (n : ℕ). Some n) (lower_of k least h))
      ∙ stays places)
      (λ (e : k ≡ place → ⊥).
      let rest = contained_rest place places k e c in
      ⊎_elim
      (λ (f : test place ≡ true).
      ap (λ (o : Option ℕ). lowest_from test o places) (cond-true (test place) (Some (lower least place)) least f)
      ∙ lowest_is (Some (lower least place)) places (lower_most k place least h (first place f)) rest)
      (λ (f : test place ≡ false).
      ap (λ (o : Option ℕ). lowest_from test o places) (cond-false (test place) (Some (lower least place)) least f)
      ∙ lowest_is least places h rest)
      (cases_Bool (test place)))
      (cases_eq k place)

module _ {R : Type 0} (test : R → Bool) where
  none_passes : (slots : List (Option R)) → place_of test slots ≡ None → (place : ℕ) → holds test (slot_at slots place) ≡ false
  none_passes [] h place = refl
  none_passes (slot ∷ slots) h zero = (not_here (holds test slot) (place_of test slots) h).0
  none_passes (slot ∷ slots) h (suc place) = none_passes slots (not_here (holds test slot) (place_of test slots) h).1 place

  first_passes : (slots : List (Option R)) (k : ℕ) → place_of test slots ≡ Some k → holds test (slot_at slots k) ≡ true
  first_passes [] k h = absurd (cc)
  first_passes (slot ∷ slots) k h =
      ⊎_elim
      (λ (e : holds test slot ≡ true). rw (here (holds test slot) (place_of test slots) k e h) e)
      (λ (e : holds test slot ≡ false).
      let b = behind (holds test slot) (place_of test slots) k e h in
      rw b.next (first_passes slots b.place b.is))
      (cases_Bool (holds test slot))

  behind_first : (slot : Option R) (slots : List (Option R)) (k n place : ℕ) → k ≡ suc n → holds test slot ≡ false
      → ((at : ℕ) → holds test (slot_at slots at) ≡ true → n ≤ at) → holds test (slot_at (slot ∷ slots) place) ≡ true → k ≤ place
  behind_first slot slots k n zero next e rest p = absurd (true≢false (sym p ∙ e))
  behind_first slot slots k n (suc place) next e rest p = let l = rest place p in omega (arith, l, next)

  first_before : (slots : List (Option R)) (k place : ℕ) → place_of test slots ≡ Some k → holds test (slot_at slots place) ≡ true → k ≤ place
  first_before [] k place h p = absurd (cc)
  first_before (slot ∷ slots) k place h p =
      ⊎_elim
      (λ (e : holds test slot ≡ true). let z = here (holds test slot) (place_of test slots) k e h in omega (arith, z))
      (λ (e : holds test slot ≡ false).
      let b = behind (holds test slot) (place_of test slots) k e h in
      let next = b.next in
      behind_first slot slots k b.place place b.next e (λ at q. first_before slots b.place at b.is q) p)
      (cases_Bool (holds test slot))

  row_of : (slot : Option R) → holds test slot ≡ true → R
  row_of None h = absurd (cc)
  row_of (Some row) h = row

  row_is : (slot : Option R) (h : holds test slot ≡ true) → slot ≡ Some (row_of slot h)
  unfolding row_of
  row_is None h = absurd (cc)
  row_is (Some row) h = refl

  row_passes : (slot : Option R) (h : holds test slot ≡ true) → test (row_of slot h) ≡ true
  unfolding row_of
  row_passes None h = absurd (cc)
  row_passes (Some row) h = h

  pub lowest_covered : (slots : List (Option R)) (places : List ℕ) → HasPassing test slots places
      → lowest_from (λ place. holds test (slot_at slots place)) None places ≡ place_of test slots
  lowest_covered slots places has = by (place_of test slots) refl
    where
      by : (o : Option ℕ) → place_of test slots ≡ o → lowest_from (λ place. holds test (slot_at slots place)) None places ≡ place_of test slots
      by None e = lowest_none (λ place. holds test (slot_at slots place)) None places (none_passes slots e) ∙ sym e
      by (Some k) e =
          let p = first_passes slots k e in
          let c = has k (row_of (slot_at slots k) p) (row_is (slot_at slots k) p) (row_passes (slot_at slots k) p) in
          lowest_is (λ place. holds test (slot_at slots place)) k p (λ place q. first_before slots k place e q) None places tt c ∙ sym e
