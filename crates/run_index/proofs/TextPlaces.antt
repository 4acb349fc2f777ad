-- The places of the rows of each text, after a change.
use Rattle.std.proofs.Common.{◌≡◌, ℕ, Bool, true, false, IsTrue, ◌↔◌, nat_eq, List, [], ◌∷◌, ◌++◌, Option, Some, None, length, refl, sym, ap, subst, ◌∙◌, ⊎_elim}
use Rattle.std.specs.Option.{unwrap_or}
use Rattle.std.specs.List.{Contains, IsDistinct}
use Rattle.std.specs.Str.{bytes_eq}
use Rattle.std.proofs.lemmas.Bool.{cases_Bool, cond-true, cond-false}
use Rattle.std.proofs.lemmas.Slice.Eq.{bytes_eq-Decides}
use Rattle.kept_table.specs.Slots.{put_at, clear_at}
use Rattle.text_chains.specs.Chains.{ChainsView, places_of, with_place}
use Rattle.text_chains.proofs.Covered.{contained_first, contained_later, distinct_add}
use Rattle.run_index.specs.Texts.{HasPlaces, IsAdded}
use Rattle.run_index.proofs.ChangedSlots.{Origin, Origin.was_there, Origin.was_put, put_origin, clear_origin, none_there}

some_same : (a b : List ℕ) → Some a ≡ Some b → a ≡ b
some_same a b e = cc

module _ {R : Type 0} (text_of : R → Option (List ℕ)) where
  -- a row was put, at a place of its text
  pub row_put : (old new : ChainsView) (slots : List (Option R)) (before : Option ℕ) (row : R) (text : List ℕ) (place : ℕ)
      → text_of row ≡ Some text → place ≡ unwrap_or before (length slots) → IsAdded old new text place → HasPlaces text_of old slots
      → HasPlaces text_of new (put_at before row slots)
  row_put old new slots before row text place named is added places = record {
    has = λ at found other there of. by at found other of (put_origin before slots row at found there);
    distinct = added.distinct places.distinct;
  }
    where
      by : (at : ℕ) (found : R) (other : List ℕ) → text_of found ≡ Some other → Origin slots (unwrap_or before (length slots)) row at found
          → Contains (places_of new other) at
      by at found other of (was_there e) = added.kept other at (places.has at found other e of)
      by at found other of (was_put e f) =
          let same : text ≡ other = some_same text other (sym named ∙ ap text_of (sym f) ∙ of) in
          subst (λ (t : List ℕ). Contains (places_of new t) at) same
          (subst (λ (p : ℕ). Contains (places_of new text) p) (is ∙ sym e) added.has)

  -- a row without a text was put
  pub row_put_untold : (view : ChainsView) (slots : List (Option R)) (before : Option ℕ) (row : R)
      → text_of row ≡ None → HasPlaces text_of view slots → HasPlaces text_of view (put_at before row slots)
  row_put_untold view slots before row untold places = record {
    has = λ at found other there of. by at found other of (put_origin before slots row at found there);
    distinct = places.distinct;
  }
    where
      by : (at : ℕ) (found : R) (other : List ℕ) → text_of found ≡ Some other → Origin slots (unwrap_or before (length slots)) row at found
          → Contains (places_of view other) at
      by at found other of (was_there e) = places.has at found other e of
      by at found other of (was_put e f) = let no : None ≡ Some other = sym untold ∙ ap text_of (sym f) ∙ of in absurd (cc)

  -- a row was removed
  pub row_cleared : (view : ChainsView) (slots : List (Option R)) (before : Option ℕ) → HasPlaces text_of view slots
      → HasPlaces text_of view (clear_at before slots)
  row_cleared view slots before places = record {
    has = λ at found text there of. places.has at found text (clear_origin before slots at found there) of;
    distinct = places.distinct;
  }

  -- one place more, without a row
  pub row_none_next : (view : ChainsView) (slots : List (Option R)) → HasPlaces text_of view slots → HasPlaces text_of view (slots ++ None ∷ [])
  row_none_next view slots places = record {
    has = λ at found text there of. places.has at found text (none_there slots at found there) of;
    distinct = places.distinct;
  }

  -- no rows
  pub no_rows : (view : ChainsView) → ((text : List ℕ) → places_of view text ≡ []) → HasPlaces text_of view []
  unfolding IsDistinct
  no_rows view none = record {
    has = λ place row text there of. absurd (cc);
    distinct = λ text. subst (IsDistinct nat_eq) (sym (none text)) tt;
  }

  -- with other room
  pub rows_kept : (old new : ChainsView) (slots : List (Option R)) → ((text : List ℕ) → places_of new text ≡ places_of old text)
      → HasPlaces text_of old slots → HasPlaces text_of new slots
  rows_kept old new slots same places = record {
    has = λ place row text there of. subst (λ (ps : List ℕ). Contains ps place) (sym (same text)) (places.has place row text there of);
    distinct = λ text. subst (IsDistinct nat_eq) (sym (same text)) (places.distinct text);
  }

-- the place is one of the text's
pub place_kept : (view : ChainsView) (text : List ℕ) (place : ℕ) → Contains (places_of view text) place → IsAdded view view text place
place_kept view text place c = record { has = c; kept = λ other at h. h; distinct = λ h. h }

-- the place is added to those of the text
pub place_added : (old new : ChainsView) (text : List ℕ) (place : ℕ) → (Contains (places_of old text) place → ⊥)
    → ((other : List ℕ) → places_of new other ≡ with_place (places_of old) text place other) → IsAdded old new text place
place_added old new text place fresh h = record {
  has = subst (λ (places : List ℕ). Contains places place) (sym (same text ((bytes_eq-Decides text text).1 refl))) (contained_first place (places_of old text));
  kept = λ other at c.
      ⊎_elim
      (λ (e : bytes_eq text other ≡ true). subst (λ (places : List ℕ). Contains places at) (sym (same other e)) (contained_later place (places_of old other) at c))
      (λ (e : bytes_eq text other ≡ false). subst (λ (places : List ℕ). Contains places at) (sym (differs other e)) c)
      (cases_Bool (bytes_eq text other));
  distinct = λ all other.
      ⊎_elim
      (λ (e : bytes_eq text other ≡ true).
      let is : text ≡ other = (bytes_eq-Decides text other).0 e in
      subst (IsDistinct nat_eq) (sym (same other e))
      (distinct_add place (places_of old other) (λ c. fresh (subst (λ (t : List ℕ). Contains (places_of old t) place) (sym is) c)) (all other)))
      (λ (e : bytes_eq text other ≡ false). subst (IsDistinct nat_eq) (sym (differs other e)) (all other))
      (cases_Bool (bytes_eq text other));
}
  where
    same : (other : List ℕ) → bytes_eq text other ≡ true → places_of new other ≡ place ∷ places_of old other
    same other e = h other ∙ cond-true (bytes_eq text other) (place ∷ places_of old other) (places_of old other) e

    differs : (other : List ℕ) → bytes_eq text other ≡ false → places_of new other ≡ places_of old other
    differs other e = h other ∙ cond-false (bytes_eq text other) (place ∷ places_of old other) (places_of old other) e

pub not_has : (has : Bool) (seen places : List ℕ) (place : ℕ) → has ≡ false → IsTrue has ↔ Contains seen place → seen ≡ places → Contains places place → ⊥
not_has true seen places place h i same c = absurd (cc)
not_has false seen places place h i same c = let t = i.1 (subst (λ (ps : List ℕ). Contains ps place) (sym same) c) in absurd (cc)
