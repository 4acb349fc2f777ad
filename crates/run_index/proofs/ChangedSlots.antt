-- Rows at places after a change of one place.
use Rattle.std.proofs.Common.{◌≡◌, ℕ, zero, suc, ◌<◌, List, [], ◌∷◌, ◌++◌, length, set, Option, Some, None, refl, ap, arith}
use Rattle.std.specs.Option.{unwrap_or}
use Rattle.kept_table.specs.Slots.{slot_at, put_at, clear_at}

module _ {R : Type 0} where
  -- a row is one that was there, or the one that was put
  pub data Origin (slots : List (Option R)) (place : ℕ) (row : R) (at : ℕ) (found : R) : Type 0 where
    was_there : slot_at slots at ≡ Some found → Origin slots place row at found
    was_put : at ≡ place → found ≡ row → Origin slots place row at found

  later : (slot : Option R) (slots : List (Option R)) (place : ℕ) (row : R) (at : ℕ) (found : R) → Origin slots place row at found
      → Origin (slot ∷ slots) (suc place) row (suc at) found
  later slot slots place row at found (was_there e) = was_there e
  later slot slots place row at found (was_put e f) = was_put (ap suc e) f

  pushed : (slots : List (Option R)) (row : R) (at : ℕ) (found : R) → slot_at (slots ++ Some row ∷ []) at ≡ Some found → Origin slots (length slots) row at found
  pushed [] row zero found h = was_put refl cc
  pushed [] row (suc at) found h = absurd (cc)
  pushed (slot ∷ slots) row zero found h = was_there h
  pushed (slot ∷ slots) row (suc at) found h = later slot slots (length slots) row at found (pushed slots row at found h)

  replaced : (slots : List (Option R)) (place : ℕ) (row : R) (at : ℕ) (found : R) → slot_at (set slots place (Some row)) at ≡ Some found → Origin slots place row at found
  replaced [] place row at found h = absurd (cc)
  replaced (slot ∷ slots) zero row zero found h = was_put refl cc
  replaced (slot ∷ slots) zero row (suc at) found h = was_there h
  replaced (slot ∷ slots) (suc place) row zero found h = was_there h
  replaced (slot ∷ slots) (suc place) row (suc at) found h = later slot slots place row at found (replaced slots place row at found h)

  pub put_origin : (before : Option ℕ) (slots : List (Option R)) (row : R) (at : ℕ) (found : R) → slot_at (put_at before row slots) at ≡ Some found
      → Origin slots (unwrap_or before (length slots)) row at found
  put_origin None slots row at found h = pushed slots row at found h
  put_origin (Some place) slots row at found h = replaced slots place row at found h

  pub freed : (slots : List (Option R)) (place at : ℕ) (found : R) → slot_at (set slots place None) at ≡ Some found → slot_at slots at ≡ Some found
  freed [] place at found h = absurd (cc)
  freed (slot ∷ slots) zero zero found h = absurd (cc)
  freed (slot ∷ slots) zero (suc at) found h = h
  freed (slot ∷ slots) (suc place) zero found h = h
  freed (slot ∷ slots) (suc place) (suc at) found h = freed slots place at found h

  -- a row that is left was there
  pub clear_origin : (before : Option ℕ) (slots : List (Option R)) (at : ℕ) (found : R) → slot_at (clear_at before slots) at ≡ Some found → slot_at slots at ≡ Some found
  clear_origin None slots at found h = h
  clear_origin (Some place) slots at found h = freed slots place at found h

  -- a row beside a free place at the end
  pub none_there : (slots : List (Option R)) (at : ℕ) (found : R) → slot_at (slots ++ None ∷ []) at ≡ Some found → slot_at slots at ≡ Some found
  none_there [] zero found h = absurd (cc)
  none_there [] (suc at) found h = absurd (cc)
  none_there (slot ∷ slots) zero found h = h
  none_there (slot ∷ slots) (suc at) found h = none_there slots at found h

  pub slot_set_same : (slots : List (Option R)) (at : ℕ) (slot : Option R) → at < length slots → slot_at (set slots at slot) at ≡ slot
  slot_set_same [] at slot l = absurd (omega arith)
  slot_set_same (old ∷ slots) zero slot l = refl
  slot_set_same (old ∷ slots) (suc at) slot l = slot_set_same slots at slot (omega arith)

  pub slot_set_other : (slots : List (Option R)) (at place : ℕ) (slot : Option R) → (place ≡ at → ⊥) → slot_at (set slots at slot) place ≡ slot_at slots place
  slot_set_other [] at place slot h = refl
  slot_set_other (old ∷ slots) zero zero slot h = absurd (h refl)
  slot_set_other (old ∷ slots) zero (suc place) slot h = refl
  slot_set_other (old ∷ slots) (suc at) zero slot h = refl
  slot_set_other (old ∷ slots) (suc at) (suc place) slot h = slot_set_other slots at place slot (λ e. h (ap suc e))

  pub slot_push_same : (slots : List (Option R)) (slot : Option R) → slot_at (slots ++ slot ∷ []) (length slots) ≡ slot
  slot_push_same [] slot = refl
  slot_push_same (old ∷ slots) slot = slot_push_same slots slot

  pub slot_push_other : (slots : List (Option R)) (place : ℕ) (slot : Option R) → (place ≡ length slots → ⊥) → slot_at (slots ++ slot ∷ []) place ≡ slot_at slots place
  slot_push_other [] zero slot h = absurd (h refl)
  slot_push_other [] (suc place) slot h = refl
  slot_push_other (old ∷ slots) zero slot h = refl
  slot_push_other (old ∷ slots) (suc place) slot h = slot_push_other slots place slot (λ e. h (ap suc e))
