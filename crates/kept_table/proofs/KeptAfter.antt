-- Each row's place has the hash of its text after a change.
use Rattle.std.proofs.Common.{◌≡◌, ℕ, suc, zero, ◌<◌, List, [], ◌∷◌, ◌++◌, length, set, slice_index, Option, Some, None}
use Rattle.std.proofs.Common.{refl, sym, ap, ◌∙◌, ⊎_elim, arith}
use Rattle.std.proofs.lemmas.Bool.{cases_eq}
use Rattle.std.proofs.lemmas.List.{length-append, length-set}
use Rattle.hash_index.specs.Hashes.{text_hash}
use Rattle.kept_table.specs.Slots.{slot_at, has_text, place_of, IsKept}
use Rattle.kept_table.proofs.PlacesOf.{AreApart-push, AreApart-replace, AreApart-remove, place_of_within}
use Rattle.kept_table.proofs.Found.{place_of_holds, hash_there}

none_some : {A : Type 0} {x : A} → None ≡ Some x → ⊥
none_some p = cc

some_same : {A : Type 0} {x y : A} → Some x ≡ Some y → x ≡ y
some_same p = cc

module _ {R : Type 0} where
  -- the place that is written, and the others
  pub slot_at_set : (slots : List (Option R)) (at : ℕ) (slot : Option R) → at < length slots → slot_at (set slots at slot) at ≡ slot
  slot_at_set [] at slot l = absurd (omega arith)
  slot_at_set (old ∷ slots) zero slot l = refl
  slot_at_set (old ∷ slots) (suc at) slot l = slot_at_set slots at slot (omega arith)

  pub slot_at_other : (slots : List (Option R)) (at : ℕ) (slot : Option R) (k : ℕ) → (k ≡ at → ⊥) → slot_at (set slots at slot) k ≡ slot_at slots k
  slot_at_other [] at slot k other = refl
  slot_at_other (old ∷ slots) zero slot zero other = absurd (other refl)
  slot_at_other (old ∷ slots) zero slot (suc k) other = refl
  slot_at_other (old ∷ slots) (suc at) slot zero other = refl
  slot_at_other (old ∷ slots) (suc at) slot (suc k) other = slot_at_other slots at slot k (λ e. other (ap suc e))

module _ {R : Type 0} (key : R → List ℕ) where
  pub kept_empty : (hashes : List ℕ) → hashes ≡ [] → IsKept key [] hashes
  kept_empty hashes none = record { long = ap length none; hashed = λ at row e. absurd (none_some e); apart = tt }

  hashed_push : (slots : List (Option R)) (row : R) (hashes : List ℕ) (hash : ℕ) → hash ≡ text_hash (key row) → length hashes ≡ length slots
      → ((at : ℕ) (old : R) → slot_at slots at ≡ Some old → slice_index hashes at ≡ text_hash (key old))
      → (at : ℕ) (new : R) → slot_at (slots ++ Some row ∷ []) at ≡ Some new → slice_index (hashes ++ hash ∷ []) at ≡ text_hash (key new)
  hashed_push [] row [] hash is long old zero new e = is ∙ ap (λ (r : R). text_hash (key r)) (some_same e)
  hashed_push [] row [] hash is long old (suc at) new e = absurd (none_some e)
  hashed_push [] row (first ∷ hashes) hash is long old at new e = absurd (omega arith)
  hashed_push (slot ∷ slots) row [] hash is long old at new e = absurd (omega arith)
  hashed_push (slot ∷ slots) row (first ∷ hashes) hash is long old zero new e = old 0 new e
  hashed_push (slot ∷ slots) row (first ∷ hashes) hash is long old (suc at) new e =
      hashed_push slots row hashes hash is (omega arith) (λ k. old (suc k)) at new e

  pub kept_push : (slots : List (Option R)) (row : R) (hashes : List ℕ) (hash : ℕ) → place_of (has_text key (key row)) slots ≡ None
      → hash ≡ text_hash (key row) → IsKept key slots hashes → IsKept key (slots ++ Some row ∷ []) (hashes ++ hash ∷ [])
  kept_push slots row hashes hash none is kept =
      let long = kept.long in
      record {
        long = omega (arith, length-append hashes (hash ∷ []), length-append slots (Some row ∷ []));
        hashed = hashed_push slots row hashes hash is long kept.hashed;
        apart = AreApart-push key slots row none kept.apart;
      }

  pub kept_replace : (slots : List (Option R)) (at : ℕ) (row : R) (hashes : List ℕ) → place_of (has_text key (key row)) slots ≡ Some at
      → IsKept key slots hashes → IsKept key (set slots at (Some row)) hashes
  kept_replace slots at row hashes some kept = record {
    long = kept.long ∙ sym (length-set slots at (Some row));
    hashed = λ k new e.
        ⊎_elim
        (λ (same : k ≡ at).
        let is : row ≡ new =
        some_same (sym (slot_at_set slots at (Some row) (place_of_within (has_text key (key row)) slots at some))
        ∙ (ap (slot_at (set slots at (Some row))) (sym same) ∙ e)) in
        ap (slice_index hashes) same
        ∙ (hash_there key (key row) slots hashes at kept (place_of_holds (has_text key (key row)) slots at some)
        ∙ ap (λ (r : R). text_hash (key r)) is))
        (λ (other : k ≡ at → ⊥). kept.hashed k new (sym (slot_at_other slots at (Some row) k other) ∙ e))
        (cases_eq k at);
    apart = AreApart-replace key slots at row some kept.apart;
  }

  pub kept_remove : (slots : List (Option R)) (at : ℕ) (text : List ℕ) (hashes : List ℕ) → place_of (has_text key text) slots ≡ Some at
      → IsKept key slots hashes → IsKept key (set slots at None) hashes
  kept_remove slots at text hashes some kept = record {
    long = kept.long ∙ sym (length-set slots at None);
    hashed = λ k new e.
        ⊎_elim
        (λ (same : k ≡ at).
        absurd (none_some (sym (slot_at_set slots at None (place_of_within (has_text key text) slots at some))
        ∙ (ap (slot_at (set slots at None)) (sym same) ∙ e))))
        (λ (other : k ≡ at → ⊥). kept.hashed k new (sym (slot_at_other slots at None k other) ∙ e))
        (cases_eq k at);
    apart = AreApart-remove key text slots at some kept.apart;
  }
