-- Counts of rows, and slots that are closed up.
use Rattle.std.proofs.Common.{◌≡◌, ℕ, suc, Bool, true, false, cond, List, [], ◌∷◌, ◌++◌, length, map, set, ◌+◌, ◌<◌, ◌≤◌}
use Rattle.std.proofs.Common.{Option, Some, None, refl, sym, ap, subst, ◌∙◌, ⊎_elim, arith}
use Rattle.std.proofs.lemmas.List.{append_assoc, append-nil}
use Rattle.std.specs.Option.{option_map}
use Rattle.std.specs.Str.{bytes_eq}
use Rattle.std.specs.Cmp.Lexicographic.{nat_list_eq_equiv}
use Rattle.std.proofs.lemmas.Bool.{cases_Bool, cond-true, cond-false}
use Rattle.kept_table.specs.Slots.{rows, holds, place_of, has_text, AreApart, closed_up, is_sparse}
use Rattle.kept_table.proofs.PlacesOf.{not_here, here, behind}

module _ {R : Type 0} where
  -- there are at most as many rows as slots
  pub rows_within : (slots : List (Option R)) → length (rows slots) ≤ length slots
  rows_within [] = omega arith
  rows_within (None ∷ slots) = let h = rows_within slots in omega arith
  rows_within (Some row ∷ slots) = let h = rows_within slots in omega arith

  pub count_push : (slots : List (Option R)) (row : R) → length (rows (slots ++ Some row ∷ [])) ≡ length (rows slots) + 1
  count_push [] row = refl
  count_push (None ∷ slots) row = count_push slots row
  count_push (Some old ∷ slots) row = let h = count_push slots row in omega arith

  pub count_replace : (test : R → Bool) (slots : List (Option R)) (at : ℕ) (row : R) → place_of test slots ≡ Some at
      → length (rows (set slots at (Some row))) ≡ length (rows slots)
  count_replace test [] at row h = absurd (cc)
  count_replace test (None ∷ slots) at row h =
      let b = behind false (place_of test slots) at refl h in
      rw b.next (count_replace test slots b.place row b.is)
  count_replace test (Some old ∷ slots) at row h =
      ⊎_elim
      (λ (e : test old ≡ true). rw (here (test old) (place_of test slots) at e h) refl)
      (λ (e : test old ≡ false).
      let b = behind (test old) (place_of test slots) at e h in
      rw b.next (ap suc (count_replace test slots b.place row b.is)))
      (cases_Bool (test old))

  pub count_remove : (test : R → Bool) (slots : List (Option R)) (at : ℕ) → place_of test slots ≡ Some at
      → suc (length (rows (set slots at None))) ≡ length (rows slots)
  count_remove test [] at h = absurd (cc)
  count_remove test (None ∷ slots) at h =
      let b = behind false (place_of test slots) at refl h in
      rw b.next (count_remove test slots b.place b.is)
  count_remove test (Some old ∷ slots) at h =
      ⊎_elim
      (λ (e : test old ≡ true). rw (here (test old) (place_of test slots) at e h) refl)
      (λ (e : test old ≡ false).
      let b = behind (test old) (place_of test slots) at e h in
      rw b.next (ap suc (count_remove test slots b.place b.is)))
      (cases_Bool (test old))

  -- the list of rows does not change when they are closed up
  pub rows_map : (rs : List R) → rows (map (λ row. Some row) rs) ≡ rs
  rows_map [] = refl
  rows_map (row ∷ rs) = ap (λ (xs : List R). row ∷ xs) (rows_map rs)

  -- a place found by one test is found by the same test
  pub place_of_alike : (f g : R → Bool) → ((row : R) → f row ≡ g row) → (slots : List (Option R)) → place_of f slots ≡ place_of g slots
  place_of_alike f g same [] = refl
  place_of_alike f g same (None ∷ slots) = ap (λ (p : Option ℕ). cond false (Some 0) (option_map suc p)) (place_of_alike f g same slots)
  place_of_alike f g same (Some row ∷ slots) =
      ap (λ (b : Bool). cond b (Some 0) (option_map suc (place_of f slots))) (same row)
      ∙ ap (λ (p : Option ℕ). cond (g row) (Some 0) (option_map suc p)) (place_of_alike f g same slots)

  -- the slots of a sparse table are closed up, and those of any other stay
  pub closed_sparse : (slots : List (Option R)) → is_sparse slots ≡ true → closed_up slots ≡ map (λ row. Some row) (rows slots)
  closed_sparse slots e = cond-true (is_sparse slots) (map (λ row. Some row) (rows slots)) slots e

  pub closed_full : (slots : List (Option R)) → is_sparse slots ≡ false → closed_up slots ≡ slots
  closed_full slots e = cond-false (is_sparse slots) (map (λ row. Some row) (rows slots)) slots e

  -- without a free slot a search finds no more
  none_without : (test : R → Bool) (slots rest : List (Option R)) → place_of test (slots ++ None ∷ rest) ≡ None → place_of test (slots ++ rest) ≡ None
  none_without test [] rest h = (not_here false (place_of test rest) h).1
  none_without test (slot ∷ slots) rest h =
      let no = not_here (holds test slot) (place_of test (slots ++ None ∷ rest)) h in
      rw (no.0, none_without test slots rest no.1) refl

module _ {R : Type 0} (key : R → List ℕ) where
  -- no slot before a row has its text
  pub apart_before : (slots rest : List (Option R)) (row : R) → AreApart key (slots ++ Some row ∷ rest) → place_of (has_text key (key row)) slots ≡ None
  apart_before [] rest row apart = refl
  apart_before (None ∷ slots) rest row apart = rw (apart_before slots rest row apart) refl
  apart_before (Some old ∷ slots) rest row apart =
      let other : bytes_eq (key row) (key old) ≡ false = not_later (key old) slots rest row apart.0 in
      rw (nat_list_eq_equiv.symm (key old) (key row) ∙ other, apart_before slots rest row apart.1) refl
    where
      not_later : (text : List ℕ) (slots rest : List (Option R)) (row : R) → place_of (has_text key text) (slots ++ Some row ∷ rest) ≡ None
          → bytes_eq (key row) text ≡ false
      not_later text [] rest row h = (not_here (bytes_eq (key row) text) (place_of (has_text key text) rest) h).0
      not_later text (slot ∷ slots) rest row h =
          not_later text slots rest row (not_here (holds (has_text key text) slot) (place_of (has_text key text) (slots ++ Some row ∷ rest)) h).1

  -- without a free slot the rows stay apart
  apart_without : (slots rest : List (Option R)) → AreApart key (slots ++ None ∷ rest) → AreApart key (slots ++ rest)
  apart_without [] rest apart = apart
  apart_without (None ∷ slots) rest apart = apart_without slots rest apart
  apart_without (Some row ∷ slots) rest apart = (none_without (has_text key (key row)) slots rest apart.0, apart_without slots rest apart.1)

  -- rows are moved in their order: some slots of `all` are left, and the rows of those before them are in `done`
  pub record IsMoving (all : List (Option R)) (total : ℕ) (done rest : List (Option R)) (room : ℕ) : Type 0 where
    pub moved : done ++ map (λ row. Some row) (rows rest) ≡ map (λ row. Some row) (rows all)
    pub count : room + length (rows all) ≡ total + length (rows rest)
    pub enough : length (rows rest) ≤ room
    pub apart : AreApart key (done ++ rest)

  pub moving_from : (all done : List (Option R)) (total : ℕ) → done ≡ [] → length (rows all) ≤ total → AreApart key all → IsMoving all total done all total
  moving_from all done total empty enough apart = record {
    moved = ap (λ (xs : List (Option R)). xs ++ map (λ row. Some row) (rows all)) empty;
    count = refl;
    enough = enough;
    apart = subst (λ (xs : List (Option R)). AreApart key (xs ++ all)) (sym empty) apart;
  }

  pub moving_past : (all done rest : List (Option R)) (total room : ℕ) → IsMoving all total done (None ∷ rest) room → IsMoving all total done rest room
  moving_past all done rest total room m = record { moved = m.moved; count = m.count; enough = m.enough; apart = apart_without done rest m.apart }

  pub moving_new : (all done rest : List (Option R)) (total room : ℕ) (row : R) → IsMoving all total done (Some row ∷ rest) room
      → (place_of (has_text key (key row)) done ≡ None) × (0 < room)
  moving_new all done rest total room row m = let enough = m.enough in (apart_before done rest row m.apart, omega arith)

  pub moving_row : (all done rest now : List (Option R)) (total room left : ℕ) (row : R) → IsMoving all total done (Some row ∷ rest) room
      → now ≡ done ++ Some row ∷ [] → left + 1 ≡ room → IsMoving all total now rest left
  moving_row all done rest now total room left row m is one =
      let enough = m.enough in
      let count = m.count in
      record {
        moved =
            ap (λ (xs : List (Option R)). xs ++ map (λ row. Some row) (rows rest)) is
            ∙ append_assoc done (Some row ∷ []) (map (λ row. Some row) (rows rest)) ∙ m.moved;
        count = omega arith;
        enough = omega arith;
        apart = subst (λ (xs : List (Option R)). AreApart key xs)
            (sym (ap (λ (xs : List (Option R)). xs ++ rest) is ∙ append_assoc done (Some row ∷ []) rest)) m.apart;
      }

  pub moving_end : (all done rest : List (Option R)) (total room : ℕ) → length rest ≡ 0 → IsMoving all total done rest room
      → (done ≡ map (λ row. Some row) (rows all)) × (room + length (rows all) ≡ total)
  moving_end all done [] total room none m = let count = m.count in (sym (append-nil done) ∙ m.moved, omega arith)
  moving_end all done (slot ∷ rest) total room none m = absurd (omega arith)
