-- Changes of slots are changes of the list of rows.
use Rattle.std.proofs.Common.{◌≡◌, ℕ, Bool, true, false, List, [], ◌∷◌, ◌++◌, set, Option, Some, None, refl, sym, ap, ◌∙◌, ⊎_elim}
use Rattle.std.specs.List.{find}
use Rattle.std.proofs.lemmas.Bool.{cases_Bool, cond-true, cond-false}
use Rattle.kept_table.specs.Slots.{slot_at, rows, place_of}
use Rattle.kept_table.specs.Lists.{put_row, drop_row, AreAsListed}
use Rattle.kept_table.proofs.PlacesOf.{not_here, here, behind}

module _ {R : Type 0} (f : R → Bool) where
  pub rows_push : (slots : List (Option R)) (row : R) → place_of f slots ≡ None → rows (slots ++ Some row ∷ []) ≡ put_row f row (rows slots)
  rows_push [] row h = refl
  rows_push (None ∷ slots) row h = rows_push slots row (not_here false (place_of f slots) h).1
  rows_push (Some old ∷ slots) row h =
      let no = not_here (f old) (place_of f slots) h in
      ap (λ (rs : List R). old ∷ rs) (rows_push slots row no.1) ∙ sym (cond-false (f old) (row ∷ rows slots) (old ∷ put_row f row (rows slots)) no.0)

  pub rows_replace : (slots : List (Option R)) (row : R) (at : ℕ) → place_of f slots ≡ Some at → rows (set slots at (Some row)) ≡ put_row f row (rows slots)
  rows_replace [] row at h = absurd (cc)
  rows_replace (None ∷ slots) row at h =
      let b = behind false (place_of f slots) at refl h in
      rw b.next (rows_replace slots row b.place b.is)
  rows_replace (Some old ∷ slots) row at h =
      ⊎_elim
      (λ (e : f old ≡ true).
      rw (here (f old) (place_of f slots) at e h)
      (sym (cond-true (f old) (row ∷ rows slots) (old ∷ put_row f row (rows slots)) e)))
      (λ (e : f old ≡ false).
      let b = behind (f old) (place_of f slots) at e h in
      rw b.next
      (ap (λ (rs : List R). old ∷ rs) (rows_replace slots row b.place b.is) ∙ sym (cond-false (f old) (row ∷ rows slots) (old ∷ put_row f row (rows slots)) e)))
      (cases_Bool (f old))

  pub rows_remove : (slots : List (Option R)) (at : ℕ) → place_of f slots ≡ Some at → rows (set slots at None) ≡ drop_row f (rows slots)
  rows_remove [] at h = absurd (cc)
  rows_remove (None ∷ slots) at h =
      let b = behind false (place_of f slots) at refl h in
      rw b.next (rows_remove slots b.place b.is)
  rows_remove (Some old ∷ slots) at h =
      ⊎_elim
      (λ (e : f old ≡ true).
      rw (here (f old) (place_of f slots) at e h)
      (sym (cond-true (f old) (rows slots) (old ∷ drop_row f (rows slots)) e)))
      (λ (e : f old ≡ false).
      let b = behind (f old) (place_of f slots) at e h in
      rw b.next
      (ap (λ (rs : List R). old ∷ rs) (rows_remove slots b.place b.is) ∙ sym (cond-false (f old) (rows slots) (old ∷ drop_row f (rows slots)) e)))
      (cases_Bool (f old))

  pub rows_found : (slots : List (Option R)) (at : ℕ) → place_of f slots ≡ Some at → find f (rows slots) ≡ slot_at slots at
  rows_found [] at h = absurd (cc)
  rows_found (None ∷ slots) at h =
      let b = behind false (place_of f slots) at refl h in
      rw b.next (rows_found slots b.place b.is)
  rows_found (Some old ∷ slots) at h =
      ⊎_elim
      (λ (e : f old ≡ true).
      rw (here (f old) (place_of f slots) at e h)
      (cond-true (f old) (Some old) (find f (rows slots)) e))
      (λ (e : f old ≡ false).
      let b = behind (f old) (place_of f slots) at e h in
      rw b.next (cond-false (f old) (Some old) (find f (rows slots)) e ∙ rows_found slots b.place b.is))
      (cases_Bool (f old))

  pub rows_missed : (slots : List (Option R)) → place_of f slots ≡ None → find f (rows slots) ≡ None
  rows_missed [] h = refl
  rows_missed (None ∷ slots) h = rows_missed slots (not_here false (place_of f slots) h).1
  rows_missed (Some old ∷ slots) h =
      let no = not_here (f old) (place_of f slots) h in
      cond-false (f old) (Some old) (find f (rows slots)) no.0 ∙ rows_missed slots no.1

  pub rows_without : (slots : List (Option R)) → place_of f slots ≡ None → drop_row f (rows slots) ≡ rows slots
  rows_without [] h = refl
  rows_without (None ∷ slots) h = rows_without slots (not_here false (place_of f slots) h).1
  rows_without (Some old ∷ slots) h =
      let no = not_here (f old) (place_of f slots) h in
      cond-false (f old) (rows slots) (old ∷ drop_row f (rows slots)) no.0 ∙ ap (λ (rs : List R). old ∷ rs) (rows_without slots no.1)

pub as_listed : (R : Type 0) → AreAsListed R
as_listed R = record {
  push = λ f. rows_push f;
  replace = λ f. rows_replace f;
  remove = λ f. rows_remove f;
  found = λ f. rows_found f;
  missed = λ f. rows_missed f;
  without = λ f. rows_without f;
}
