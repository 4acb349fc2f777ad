-- Places after a change.
use Rattle.std.proofs.Common.{◌≡◌, ℕ, suc, zero, Bool, true, false, cond, List, [], ◌∷◌, ◌++◌, length, set, get_or, ◌<◌, ◌≤◌, Option}
use Rattle.std.proofs.Common.{Some, None, refl, sym, ap, subst, ◌∙◌, ⊎_elim, arith}
use Rattle.std.specs.Option.{option_map}
use Rattle.std.specs.Str.{bytes_eq}
use Rattle.std.specs.Cmp.Lexicographic.{nat_list_eq_equiv}
use Rattle.std.proofs.lemmas.Bool.{cases_Bool, cond-false, true≢false}
use Rattle.std.proofs.lemmas.Slice.Eq.{bytes_eq-Decides}
use Rattle.kept_table.specs.Slots.{slot_at, holds, place_of, has_text, AreApart}

-- the first place, or one of those after it
abbrev pub here_or : Bool → Option ℕ → Option ℕ
here_or a p = cond a (Some 0) (option_map suc p)

pub not_here : (a : Bool) (p : Option ℕ) → here_or a p ≡ None → (a ≡ false) × (p ≡ None)
not_here true p h = absurd (cc)
not_here false None h = (refl, refl)
not_here false (Some k) h = absurd (cc)

pub here : (a : Bool) (p : Option ℕ) (at : ℕ) → a ≡ true → here_or a p ≡ Some at → at ≡ 0
here true p at e h = cc
here false p at e h = absurd (cc)

-- a place after the first
pub record Behind (p : Option ℕ) (at : ℕ) : Type 0 where
  pub place : ℕ
  pub is : p ≡ Some place
  pub next : at ≡ suc place

pub behind : (a : Bool) (p : Option ℕ) (at : ℕ) → a ≡ false → here_or a p ≡ Some at → Behind p at
behind true p at e h = absurd (cc)
behind false None at e h = absurd (cc)
behind false (Some k) at e h = record { place = k; is = refl; next = cc }

step_push : (a b : Bool) (p r : Option ℕ) (n : ℕ) → (b ≡ true → a ≡ false) → r ≡ cond b (Some n) p → here_or a r ≡ cond b (Some (suc n)) (here_or a p)
step_push true true p r n f e = absurd (true≢false (f refl))
step_push true false p r n f e = refl
step_push false true p r n f e = ap (option_map suc) e
step_push false false p r n f e = ap (option_map suc) e

step_remove : (a b : Bool) (p r : Option ℕ) → (b ≡ true → a ≡ false) → r ≡ cond b None p → here_or a r ≡ cond b None (here_or a p)
step_remove true true p r f e = absurd (true≢false (f refl))
step_remove true false p r f e = refl
step_remove false true p r f e = ap (option_map suc) e
step_remove false false p r f e = ap (option_map suc) e

gone : (b : Bool) (p : Option ℕ) → (b ≡ true → p ≡ None) → option_map suc p ≡ cond b None (here_or b p)
gone true p f = ap (option_map suc) (f refl)
gone false p f = refl

none_under : (b : Bool) (p : Option ℕ) → p ≡ None → cond b None p ≡ None
none_under true p e = refl
none_under false p e = e

same : (xs ys : List ℕ) → bytes_eq xs ys ≡ true → xs ≡ ys
same xs ys = (bytes_eq-Decides xs ys).0

module _ {R : Type 0} (key : R → List ℕ) where
  -- a place with a row of one key has no row of another
  holds_other : (slot : Option R) (k q : List ℕ) → holds (has_text key k) slot ≡ false → bytes_eq k q ≡ true → holds (has_text key q) slot ≡ false
  holds_other slot k q h e = subst (λ (r : List ℕ). holds (has_text key r) slot ≡ false) (same k q e) h

  -- one more row at the end
  pub place_of-push : (q : List ℕ) (slots : List (Option R)) (row : R) → place_of (has_text key (key row)) slots ≡ None
      → place_of (has_text key q) (slots ++ Some row ∷ []) ≡ cond (bytes_eq (key row) q) (Some (length slots)) (place_of (has_text key q) slots)
  place_of-push q [] row h = refl
  place_of-push q (slot ∷ slots) row h =
      let no = not_here (holds (has_text key (key row)) slot) (place_of (has_text key (key row)) slots) h in
      step_push (holds (has_text key q) slot) (bytes_eq (key row) q) (place_of (has_text key q) slots)
      (place_of (has_text key q) (slots ++ Some row ∷ [])) (length slots)
      (λ e. holds_other slot (key row) q no.0 e) (place_of-push q slots row no.1)

  -- a row in the place of one with its key
  pub place_of-replace : (q : List ℕ) (slots : List (Option R)) (at : ℕ) (row : R) → place_of (has_text key (key row)) slots ≡ Some at
      → place_of (has_text key q) (set slots at (Some row)) ≡ place_of (has_text key q) slots
  place_of-replace q [] at row h = absurd (cc)
  place_of-replace q (None ∷ slots) at row h =
      let b = behind false (place_of (has_text key (key row)) slots) at refl h in
      rw b.next (ap (option_map suc) (place_of-replace q slots b.place row b.is))
  place_of-replace q (Some old ∷ slots) at row h =
      ⊎_elim
      (λ (e : bytes_eq (key old) (key row) ≡ true).
      let first = here (bytes_eq (key old) (key row)) (place_of (has_text key (key row)) slots) at e h in
      rw first (ap (λ (k : List ℕ). here_or (bytes_eq k q) (place_of (has_text key q) slots)) (sym (same (key old) (key row) e))))
      (λ (e : bytes_eq (key old) (key row) ≡ false).
      let b = behind (bytes_eq (key old) (key row)) (place_of (has_text key (key row)) slots) at e h in
      rw b.next (ap (here_or (bytes_eq (key old) q)) (place_of-replace q slots b.place row b.is)))
      (cases_Bool (bytes_eq (key old) (key row)))

  -- a place that is freed
  pub place_of-remove : (k q : List ℕ) (slots : List (Option R)) (at : ℕ) → AreApart key slots → place_of (has_text key k) slots ≡ Some at
      → place_of (has_text key q) (set slots at None) ≡ cond (bytes_eq k q) None (place_of (has_text key q) slots)
  place_of-remove k q [] at apart h = absurd (cc)
  place_of-remove k q (None ∷ slots) at apart h =
      let b = behind false (place_of (has_text key k) slots) at refl h in
      rw b.next (step_remove false (bytes_eq k q) (place_of (has_text key q) slots) (place_of (has_text key q) (set slots b.place None))
      (λ e. refl) (place_of-remove k q slots b.place apart b.is))
  place_of-remove k q (Some old ∷ slots) at apart h =
      ⊎_elim
      (λ (e : bytes_eq (key old) k ≡ true).
      let first = here (bytes_eq (key old) k) (place_of (has_text key k) slots) at e h in
      let one : key old ≡ k = same (key old) k e in
      rw (first, ← one) (gone (bytes_eq (key old) q) (place_of (has_text key q) slots)
      (λ f. subst (λ (r : List ℕ). place_of (has_text key r) slots ≡ None) (same (key old) q f) apart.0)))
      (λ (e : bytes_eq (key old) k ≡ false).
      let b = behind (bytes_eq (key old) k) (place_of (has_text key k) slots) at e h in
      rw b.next (step_remove (bytes_eq (key old) q) (bytes_eq k q) (place_of (has_text key q) slots) (place_of (has_text key q) (set slots b.place None))
      (λ f. holds_other (Some old) k q e f) (place_of-remove k q slots b.place apart.1 b.is)))
      (cases_Bool (bytes_eq (key old) k))

  pub AreApart-push : (slots : List (Option R)) (row : R) → place_of (has_text key (key row)) slots ≡ None → AreApart key slots
      → AreApart key (slots ++ Some row ∷ [])
  AreApart-push [] row h apart = (refl, tt)
  AreApart-push (None ∷ slots) row h apart = AreApart-push slots row (not_here false (place_of (has_text key (key row)) slots) h).1 apart
  AreApart-push (Some old ∷ slots) row h apart =
      let no = not_here (bytes_eq (key old) (key row)) (place_of (has_text key (key row)) slots) h in (
        place_of-push (key old) slots row no.1
            ∙ (cond-false (bytes_eq (key row) (key old)) (Some (length slots)) (place_of (has_text key (key old)) slots)
            (nat_list_eq_equiv.symm (key row) (key old) ∙ no.0) ∙ apart.0),
        AreApart-push slots row no.1 apart.1,
      )

  pub AreApart-replace : (slots : List (Option R)) (at : ℕ) (row : R) → place_of (has_text key (key row)) slots ≡ Some at → AreApart key slots
      → AreApart key (set slots at (Some row))
  AreApart-replace [] at row h apart = absurd (cc)
  AreApart-replace (None ∷ slots) at row h apart =
      let b = behind false (place_of (has_text key (key row)) slots) at refl h in
      rw b.next (AreApart-replace slots b.place row b.is apart)
  AreApart-replace (Some old ∷ slots) at row h apart =
      ⊎_elim
      (λ (e : bytes_eq (key old) (key row) ≡ true).
      let first = here (bytes_eq (key old) (key row)) (place_of (has_text key (key row)) slots) at e h in
      rw first (subst (λ (r : List ℕ). place_of (has_text key r) slots ≡ None) (same (key old) (key row) e) apart.0, apart.1))
      (λ (e : bytes_eq (key old) (key row) ≡ false).
      let b = behind (bytes_eq (key old) (key row)) (place_of (has_text key (key row)) slots) at e h in
      rw b.next (place_of-replace (key old) slots b.place row b.is ∙ apart.0, AreApart-replace slots b.place row b.is apart.1))
      (cases_Bool (bytes_eq (key old) (key row)))

  pub AreApart-remove : (k : List ℕ) (slots : List (Option R)) (at : ℕ) → place_of (has_text key k) slots ≡ Some at → AreApart key slots
      → AreApart key (set slots at None)
  AreApart-remove k [] at h apart = absurd (cc)
  AreApart-remove k (None ∷ slots) at h apart =
      let b = behind false (place_of (has_text key k) slots) at refl h in
      rw b.next (AreApart-remove k slots b.place b.is apart)
  AreApart-remove k (Some old ∷ slots) at h apart =
      ⊎_elim
      (λ (e : bytes_eq (key old) k ≡ true).
      let first = here (bytes_eq (key old) k) (place_of (has_text key k) slots) at e h in
      rw first apart.1)
      (λ (e : bytes_eq (key old) k ≡ false).
      let b = behind (bytes_eq (key old) k) (place_of (has_text key k) slots) at e h in
      rw b.next (
        place_of-remove k (key old) slots b.place apart.1 b.is ∙ none_under (bytes_eq k (key old)) (place_of (has_text key (key old)) slots) apart.0,
        AreApart-remove k slots b.place b.is apart.1,
      ))
      (cases_Bool (bytes_eq (key old) k))

-- a place is one of the list's
pub place_of_within : {R : Type 0} (test : R → Bool) (slots : List (Option R)) (at : ℕ) → place_of test slots ≡ Some at → at < length slots
place_of_within test [] at h = absurd (cc)
place_of_within test (slot ∷ slots) at h =
    ⊎_elim
    (λ (e : holds test slot ≡ true). let first = here (holds test slot) (place_of test slots) at e h in omega arith)
    (λ (e : holds test slot ≡ false).
    let b = behind (holds test slot) (place_of test slots) at e h in
    let rest = place_of_within test slots b.place b.is in
    let next = b.next in
    omega arith)
    (cases_Bool (holds test slot))

-- reading a place
pub slot_at_get : {R : Type 0} (slots : List (Option R)) (at : ℕ) (d : Option R) → at < length slots → slot_at slots at ≡ get_or slots at d
slot_at_get [] at d l = absurd (omega arith)
slot_at_get (slot ∷ slots) zero d l = refl
slot_at_get (slot ∷ slots) (suc at) d l = slot_at_get slots at d (omega arith)

pub slot_at_past : {R : Type 0} (slots : List (Option R)) (at : ℕ) → length slots ≤ at → slot_at slots at ≡ None
slot_at_past [] at l = refl
slot_at_past (slot ∷ slots) zero l = absurd (omega arith)
slot_at_past (slot ∷ slots) (suc at) l = slot_at_past slots at (omega arith)
