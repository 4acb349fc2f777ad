-- Numbers by texts.
use Rattle.std.specs.Prelude.{ℕ, Bool, List, map, Option, is_some, Vec}
use Rattle.std.specs.Option.{unwrap_or}
use Rattle.std.specs.Str.{bytes_eq}
use Rattle.std.specs.Map.{lookup}

-- each text of a map with its number
abbrev pub numbers_of : {Z : Type 0} → List (Vec ℕ Z × ℕ) → List (List ℕ × ℕ)
numbers_of entries = map (λ entry. (entry.0.items, entry.1)) entries

-- the number of a text
unfoldable pub number_at : List (List ℕ × ℕ) → List ℕ → Option ℕ
number_at numbers text = lookup (λ key. bytes_eq text key) numbers

-- the text has a number
abbrev pub has_number : List (List ℕ × ℕ) → List ℕ → Bool
has_number numbers text = is_some (number_at numbers text)

-- the number of a text, or 0 if it has none
abbrev pub count_at : List (List ℕ × ℕ) → List ℕ → ℕ
count_at numbers text = unwrap_or (number_at numbers text) 0
