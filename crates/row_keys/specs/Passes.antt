-- Rows by keys, which some rows have.
use Rattle.std.specs.Prelude.{ℕ, Bool, true, false, not, ◌&&◌, List, [], ◌∷◌, Option}
use Rattle.std.specs.Option.{option_map_or}
use Rattle.std.specs.List.{list_any}
use Rattle.std.specs.Str.{bytes_eq}

module _ {R : Type 0} where
  -- the row's key has this text
  abbrev pub has_key : (R → Option (List ℕ)) → List ℕ → R → Bool
  has_key key text row = option_map_or (λ own. bytes_eq own text) (key row) false

  -- both rows have a key, and it is the same
  abbrev pub share_key : (R → Option (List ℕ)) → R → R → Bool
  share_key key row other = option_map_or (λ text. has_key key text row) (key other) false

  -- the row has no key, or one that was not seen
  abbrev pub is_new : (R → Option (List ℕ)) → (List ℕ → Bool) → R → Bool
  is_new key seen row = option_map_or (λ text. not (seen text)) (key row) true

  -- no two rows are the same
  abbrev pub are_distinct : (R → R → Bool) → List R → Bool
  are_distinct same [] = true
  are_distinct same (row ∷ rest) = not (list_any (same row) rest) && are_distinct same rest
