-- Places that are free after a change of one place.
use Rattle.std.proofs.Common.{◌≡◌, ℕ, zero, suc, List, [], ◌∷◌, ◌++◌, length, set, Option, Some, None, refl, sym, ap, ◌∙◌}
use Rattle.std.specs.Option.{unwrap_or}
use Rattle.kept_table.specs.Slots.{rows, put_at, clear_at}

module _ {R : Type 0} where
  -- a place that changes and is then free
  pub free_set : (slots : List (Option R)) (at : ℕ) (slot : Option R) → set (set slots at slot) at None ≡ set slots at None
  free_set [] at slot = refl
  free_set (old ∷ slots) zero slot = refl
  free_set (old ∷ slots) (suc at) slot = ap (λ (rest : List (Option R)). old ∷ rest) (free_set slots at slot)

  pub free_past : (slots : List (Option R)) → set slots (length slots) None ≡ slots
  free_past [] = refl
  free_past (old ∷ slots) = ap (λ (rest : List (Option R)). old ∷ rest) (free_past slots)

  pub free_push : (slots : List (Option R)) (slot : Option R) → set (slots ++ slot ∷ []) (length slots) None ≡ slots ++ None ∷ []
  free_push [] slot = refl
  free_push (old ∷ slots) slot = ap (λ (rest : List (Option R)). old ∷ rest) (free_push slots slot)

  pub rows_none : (slots : List (Option R)) → rows (slots ++ None ∷ []) ≡ rows slots
  rows_none [] = refl
  rows_none (None ∷ slots) = rows_none slots
  rows_none (Some row ∷ slots) = ap (λ (rs : List R). row ∷ rs) (rows_none slots)

  -- the rows beside the one that was put
  pub free_put : (before : Option ℕ) (slots : List (Option R)) (row : R)
      → rows (set (put_at before row slots) (unwrap_or before (length slots)) None) ≡ rows (set slots (unwrap_or before (length slots)) None)
  free_put None slots row = ap rows (free_push slots (Some row)) ∙ rows_none slots ∙ sym (ap rows (free_past slots))
  free_put (Some at) slots row = ap rows (free_set slots at (Some row))

  pub free_clear : (before : Option ℕ) (slots : List (Option R)) → set slots (unwrap_or before (length slots)) None ≡ clear_at before slots
  free_clear None slots = free_past slots
  free_clear (Some at) slots = refl
