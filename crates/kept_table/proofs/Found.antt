-- A row is found among the places that have the hash of its text.
use Rattle.std.proofs.Common.{◌≡◌, ℕ, suc, zero, Bool, true, false, List, [], ◌∷◌, slice_index}
use Rattle.std.proofs.Common.{Option, Some, None, refl, sym, ap, subst, ◌∙◌, ⊎_elim, arith}
use Rattle.std.specs.Option.{option_map}
use Rattle.std.specs.List.{Contains, find}
use Rattle.std.specs.Str.{bytes_eq}
use Rattle.std.proofs.lemmas.Bool.{cases_Bool, cond-true, cond-false, true≢false}
use Rattle.std.proofs.lemmas.Slice.Eq.{bytes_eq-Decides}
use Rattle.hash_index.specs.Hashes.{text_hash, places_with}
use Rattle.hash_index.proofs.Below.{with_has}
use Rattle.kept_table.specs.Slots.{slot_at, holds, place_of, has_text, AreApart, IsKept}
use Rattle.kept_table.proofs.PlacesOf.{not_here, here, behind, place_of_within}

-- a search of a list finds nothing if nothing passes the test
pub find_nothing : (f : ℕ → Bool) (places : List ℕ) → ((at : ℕ) → f at ≡ false) → find f places ≡ None
find_nothing f [] h = refl
find_nothing f (at ∷ places) h = cond-false (f at) (Some at) (find f places) (h at) ∙ find_nothing f places h

-- a search of a list finds the only one that passes the test
pub find_only : (f : ℕ → Bool) (places : List ℕ) (at : ℕ) → Contains places at → f at ≡ true → ((other : ℕ) → f other ≡ true → other ≡ at)
    → find f places ≡ Some at
find_only f [] at c e h = let l = c.1 in absurd (omega arith)
find_only f (first ∷ places) at c e h =
    ⊎_elim
    (λ (t : f first ≡ true). cond-true (f first) (Some first) (find f places) t ∙ ap Some (h first t))
    (λ (t : f first ≡ false).
    cond-false (f first) (Some first) (find f places) t ∙ find_only f places at (later f first places at c e t) e h)
    (cases_Bool (f first))
  where
    later : (f : ℕ → Bool) (first : ℕ) (places : List ℕ) (at : ℕ) → Contains (first ∷ places) at → f at ≡ true → f first ≡ false → Contains places at
    later f first places at (zero, l, is) e t = absurd (true≢false (sym e ∙ (ap f (sym is) ∙ t)))
    later f first places at (suc k, l, is) e t = (k, omega arith, is)

module _ {R : Type 0} where
  -- no place has a row that passes the test if none is found
  pub none_holds : (test : R → Bool) (slots : List (Option R)) (at : ℕ) → place_of test slots ≡ None → holds test (slot_at slots at) ≡ false
  none_holds test [] at h = refl
  none_holds test (slot ∷ slots) zero h = (not_here (holds test slot) (place_of test slots) h).0
  none_holds test (slot ∷ slots) (suc at) h = none_holds test slots at (not_here (holds test slot) (place_of test slots) h).1

  -- the place that is found has a row that passes the test
  pub place_of_holds : (test : R → Bool) (slots : List (Option R)) (at : ℕ) → place_of test slots ≡ Some at → holds test (slot_at slots at) ≡ true
  place_of_holds test [] at h = absurd (cc)
  place_of_holds test (slot ∷ slots) at h =
      ⊎_elim
      (λ (e : holds test slot ≡ true). rw (here (holds test slot) (place_of test slots) at e h) e)
      (λ (e : holds test slot ≡ false).
      let b = behind (holds test slot) (place_of test slots) at e h in
      rw b.next (place_of_holds test slots b.place b.is))
      (cases_Bool (holds test slot))

module _ {R : Type 0} (key : R → List ℕ) where
  -- a place with a row of the text is the one that is found
  pub only_place : (text : List ℕ) (slots : List (Option R)) (at : ℕ) → AreApart key slots → holds (has_text key text) (slot_at slots at) ≡ true
      → place_of (has_text key text) slots ≡ Some at
  only_place text [] at apart h = absurd (true≢false (sym h))
  only_place text (None ∷ slots) zero apart h = absurd (true≢false (sym h))
  only_place text (None ∷ slots) (suc at) apart h = ap (option_map suc) (only_place text slots at apart h)
  only_place text (Some row ∷ slots) zero apart h =
      cond-true (bytes_eq (key row) text) (Some 0) (option_map suc (place_of (has_text key text) slots)) h
  only_place text (Some row ∷ slots) (suc at) apart h =
      let rest : place_of (has_text key text) slots ≡ Some at = only_place text slots at apart.1 h in
      ⊎_elim
      (λ (e : bytes_eq (key row) text ≡ true).
      let none : place_of (has_text key text) slots ≡ None =
      subst (λ (k : List ℕ). place_of (has_text key k) slots ≡ None) ((bytes_eq-Decides (key row) text).0 e) apart.0 in
      absurd (none_some (sym none ∙ rest)))
      (λ (e : bytes_eq (key row) text ≡ false).
      cond-false (bytes_eq (key row) text) (Some 0) (option_map suc (place_of (has_text key text) slots)) e ∙ ap (option_map suc) rest)
      (cases_Bool (bytes_eq (key row) text))
    where
      none_some : {A : Type 0} {x : A} → None ≡ Some x → ⊥
      none_some p = cc

  -- the place of a row with the text has the text's hash
  pub hash_there : (text : List ℕ) (slots : List (Option R)) (hashes : List ℕ) (at : ℕ) → IsKept key slots hashes
      → holds (has_text key text) (slot_at slots at) ≡ true → slice_index hashes at ≡ text_hash text
  hash_there text slots hashes at kept h = by_slot (slot_at slots at) refl h
    where
      by_slot : (slot : Option R) → slot_at slots at ≡ slot → holds (has_text key text) slot ≡ true → slice_index hashes at ≡ text_hash text
      by_slot None e f = absurd (true≢false (sym f))
      by_slot (Some row) e f = kept.hashed at row e ∙ ap text_hash ((bytes_eq-Decides (key row) text).0 f)

  -- who goes over the places with the hash of a text finds the place of the row with the text
  pub found_by_hash : (text : List ℕ) (slots : List (Option R)) (hashes : List ℕ) → IsKept key slots hashes
      → find (λ at. holds (has_text key text) (slot_at slots at)) (places_with (text_hash text) hashes) ≡ place_of (has_text key text) slots
  found_by_hash text slots hashes kept = by_place (place_of (has_text key text) slots) refl
    where
      some_same : {x y : ℕ} → Some x ≡ Some y → x ≡ y
      some_same p = cc

      test : ℕ → Bool
      test at = holds (has_text key text) (slot_at slots at)

      by_place : (p : Option ℕ) → place_of (has_text key text) slots ≡ p → find test (places_with (text_hash text) hashes) ≡ place_of (has_text key text) slots
      by_place None e = find_nothing test (places_with (text_hash text) hashes) (λ at. none_holds (has_text key text) slots at e) ∙ sym e
      by_place (Some at) e =
          let here : test at ≡ true = place_of_holds (has_text key text) slots at e in
          let within = place_of_within (has_text key text) slots at e in
          let long = kept.long in
          let one = with_has at (text_hash text) hashes (omega arith) (hash_there text slots hashes at kept here) in
          find_only test (places_with (text_hash text) hashes) at one here
          (λ other t. some_same (sym (only_place text slots other kept.apart t) ∙ e))
          ∙ sym e
