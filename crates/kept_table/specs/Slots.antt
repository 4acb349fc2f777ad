-- Rows in slots, some of them free. The place of a slot is its number, from 0.
use Rattle.std.specs.Prelude.{◌≡◌, ℕ, zero, suc, ◌+◌, ◌*◌, ◌≤◌, Bool, false, List, [], ◌∷◌, ◌++◌, length, map, set, slice_index}
use Rattle.std.specs.Prelude.{nat_lt, Option, Some, None, if◌then◌else◌, vec_len, vec_capacity, Vec}
use Rattle.std.specs.Option.{option_map}
use Rattle.std.specs.List.{filter_map}
use Rattle.std.specs.Str.{bytes_eq}
use Rattle.hash_index.specs.Hashes.{HashesView, text_hash}

-- what contracts see of a table: its slots, and how many more rows can be pushed without allocating
pub record TableView (R : Type 0) : Type 0 where
  pub slots : List (Option R)
  pub room : ℕ

module _ {R : Type 0} where
  -- the row at the place, if there is one
  abbrev pub slot_at : List (Option R) → ℕ → Option R
  slot_at [] at = None
  slot_at (slot ∷ slots) zero = slot
  slot_at (slot ∷ slots) (suc at) = slot_at slots at

  -- the rows in the order of their places
  abbrev pub rows : List (Option R) → List R
  rows slots = filter_map (λ slot. slot) slots

  -- the slot has a row that passes the test
  abbrev pub holds : (R → Bool) → Option R → Bool
  holds test None = false
  holds test (Some row) = test row

  -- the place of the first row that passes the test
  abbrev pub place_of : (R → Bool) → List (Option R) → Option ℕ
  place_of test [] = None
  place_of test (slot ∷ slots) = if holds test slot then Some 0 else option_map suc (place_of test slots)

  -- a row in the place, or at the end if there is none
  abbrev pub put_at : Option ℕ → R → List (Option R) → List (Option R)
  put_at None row slots = slots ++ Some row ∷ []
  put_at (Some at) row slots = set slots at (Some row)

  -- the row in the place of the first that has its key, or else at the end
  abbrev pub put_slot : (R → Bool) → R → List (Option R) → List (Option R)
  put_slot has_key row slots = put_at (place_of has_key slots) row slots

  -- the place free, if there is one
  abbrev pub clear_at : Option ℕ → List (Option R) → List (Option R)
  clear_at None slots = slots
  clear_at (Some at) slots = set slots at None

  -- the place of the first row that has the key is free
  abbrev pub clear_slot : (R → Bool) → List (Option R) → List (Option R)
  clear_slot has_key slots = clear_at (place_of has_key slots) slots

  -- more than half of the places are free
  abbrev pub is_sparse : List (Option R) → Bool
  is_sparse slots = nat_lt (2 * length (rows slots)) (length slots)

  -- the slots with the rows closed up in their order, if more than half of the places are free, and else as they are
  abbrev pub closed_up : List (Option R) → List (Option R)
  closed_up slots = if is_sparse slots then map (λ row. Some row) (rows slots) else slots

-- the stored key has these bytes
abbrev pub has_bytes : {Z : Type 0} → List ℕ → Vec ℕ Z → Bool
has_bytes text key = bytes_eq text key.items

module _ {R : Type 0} (row_text : R → List ℕ) where
  -- the row's key has this text
  abbrev pub has_text : List ℕ → R → Bool
  has_text text row = bytes_eq (row_text row) text

  -- no two rows have the same text
  abbrev pub AreApart : List (Option R) → Type 0
  AreApart [] = Unit {0}
  AreApart (None ∷ slots) = AreApart slots
  AreApart (Some row ∷ slots) = (place_of (has_text (row_text row)) slots ≡ None) × AreApart slots

  -- a row's place has the hash of the text of the row's key; a free place has any hash
  pub record IsKept (slots : List (Option R)) (hashes : List ℕ) : Type 0 where
    pub long : length hashes ≡ length slots
    pub hashed : (at : ℕ) (row : R) → slot_at slots at ≡ Some row → slice_index hashes at ≡ text_hash (row_text row)
    pub apart : AreApart slots

-- `room` more rows can be pushed without allocating
pub record HasRoom {R Y : Type 0} (rows : Vec (Option R) Y) (index : HashesView) (room : ℕ) : Type 0 where
  pub slots : vec_len rows + room ≤ vec_capacity rows
  pub hashes : room ≤ index.room
