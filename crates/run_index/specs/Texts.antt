-- Rows that are found by a text of theirs: the places of the rows of each text, to which places are added.
use Rattle.std.specs.Prelude.{◌≡◌, ℕ, nat_eq, List, Option, Some}
use Rattle.std.specs.List.{Contains, IsDistinct}
use Rattle.kept_table.specs.Slots.{slot_at}
use Rattle.text_chains.specs.Chains.{ChainsView, places_of}

-- each row that has a text is at one of the places of this text, and no place is twice among those of a text
pub record HasPlaces {R : Type 0} (text_of : R → Option (List ℕ)) (view : ChainsView) (slots : List (Option R)) : Type 0 where
  pub has : (place : ℕ) (row : R) (text : List ℕ) → slot_at slots place ≡ Some row → text_of row ≡ Some text
      → Contains (places_of view text) place
  pub distinct : (text : List ℕ) → IsDistinct nat_eq (places_of view text)

-- the place is put among those of the text, unless it is one of them, and those of other texts stay
pub record IsAdded (old new : ChainsView) (text : List ℕ) (place : ℕ) : Type 0 where
  pub has : Contains (places_of new text) place
  pub kept : (other : List ℕ) (at : ℕ) → Contains (places_of old other) at → Contains (places_of new other) at
  pub distinct : ((other : List ℕ) → IsDistinct nat_eq (places_of old other)) → (other : List ℕ) → IsDistinct nat_eq (places_of new other)
