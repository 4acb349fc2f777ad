-- Lists of rows, where a test says which rows have the key.
use Rattle.std.specs.Prelude.{◌≡◌, ℕ, Bool, List, [], ◌∷◌, ◌++◌, set, Option, Some, None, if◌then◌else◌}
use Rattle.std.specs.List.{find}
use Rattle.kept_table.specs.Slots.{place_of, slot_at, rows}

module _ {R : Type 0} where
  -- the row in the place of the first that has its key, or else at the end
  abbrev pub put_row : (R → Bool) → R → List R → List R
  put_row has_key row [] = row ∷ []
  put_row has_key row (old ∷ rest) = if has_key old then row ∷ rest else old ∷ put_row has_key row rest

  -- without the first row that has the key
  abbrev pub drop_row : (R → Bool) → List R → List R
  drop_row has_key [] = []
  drop_row has_key (old ∷ rest) = if has_key old then rest else old ∷ drop_row has_key rest

-- for any test of rows: a push, a replacement and a removal in the slots are a put and a drop in the list of rows, and a place that was
-- found has the row that a search of the list finds
pub record AreAsListed (R : Type 0) : Type 0 where
  pub push : (has_key : R → Bool) (slots : List (Option R)) (row : R) → place_of has_key slots ≡ None
      → rows (slots ++ Some row ∷ []) ≡ put_row has_key row (rows slots)
  pub replace : (has_key : R → Bool) (slots : List (Option R)) (row : R) (at : ℕ) → place_of has_key slots ≡ Some at
      → rows (set slots at (Some row)) ≡ put_row has_key row (rows slots)
  pub remove : (has_key : R → Bool) (slots : List (Option R)) (at : ℕ) → place_of has_key slots ≡ Some at
      → rows (set slots at None) ≡ drop_row has_key (rows slots)
  pub found : (has_key : R → Bool) (slots : List (Option R)) (at : ℕ) → place_of has_key slots ≡ Some at → find has_key (rows slots) ≡ slot_at slots at
  pub missed : (has_key : R → Bool) (slots : List (Option R)) → place_of has_key slots ≡ None → find has_key (rows slots) ≡ None
  pub without : (has_key : R → Bool) (slots : List (Option R)) → place_of has_key slots ≡ None → drop_row has_key (rows slots) ≡ rows slots
