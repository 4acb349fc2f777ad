-- The texts of keys. A text of numbers stands for bytes: those of a key have one byte in each place. Different keys have different texts
-- for all lists and numbers, so that no range has to be known.
use Rattle.std.specs.Prelude.{◌≡◌, ℕ, zero, suc, ◌/◌, ◌%◌, Bool, List, [], ◌∷◌, ◌++◌, length}
use Rattle.std.specs.Str.{bytes_eq}
use Rattle.bt_base.specs.Ids.{lowered}

-- the texts decide which rows have a key, and which have the same key
pub record AreTexts {K R : Type 0} (has_key : K → R → Bool) (same_key : R → R → Bool) (key_text : K → List ℕ) (row_text : R → List ℕ) : Type 0 where
  pub has : (key : K) (row : R) → has_key key row ≡ bytes_eq (row_text row) (key_text key)
  pub same : (row other : R) → same_key row other ≡ bytes_eq (row_text row) (row_text other)

-- the bytes of a number, lowest first: `count` bytes, and then what is left
abbrev pub low_bytes : ℕ → ℕ → List ℕ
low_bytes zero number = number ∷ []
low_bytes (suc count) number = (number % 256) ∷ low_bytes count (number / 256)

-- a number below 2 ^ 64 in eight bytes, lowest first
unfoldable pub number_text : ℕ → List ℕ
number_text number = low_bytes 7 number

-- an id in small letters, since ids are compared without regard to case
abbrev pub id_text : List ℕ → List ℕ
id_text id = lowered id

-- two ids: the length of the first, and both in small letters
abbrev pub ids_text : List ℕ → List ℕ → List ℕ
ids_text first second = length first ∷ (lowered first ++ lowered second)

-- a number and an id
abbrev pub number_id_text : ℕ → List ℕ → List ℕ
number_id_text number id = number_text number ++ lowered id
