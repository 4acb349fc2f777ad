-- The parts of a line: the texts between its spaces.
use Rattle.std.specs.Prelude.{ℕ, suc, Bool, List, take, drop, Option, Some, None, option_map, option_and_then, ◌==◌, if◌then◌else◌}
use Rattle.std.specs.List.{position, list_any}
use Rattle.std.specs.Option.{option_map_or}

-- the byte is a space
abbrev pub is_space : ℕ → Bool
is_space b = b == 32

-- the text before the first space, and the text after it
abbrev pub two_parts : List ℕ → Option (List ℕ × List ℕ)
two_parts text = option_map (λ i. (take i text, drop (suc i) text)) (position is_space text)

-- a text without a space
abbrev pub one_part : List ℕ → Option (List ℕ)
one_part text = if list_any is_space text then None else Some text

-- two texts without a space, separated by one
abbrev pub just_two : List ℕ → Option (List ℕ × List ℕ)
just_two text = option_and_then (λ parts. option_map (λ last. (parts.0, last)) (one_part parts.1)) (two_parts text)

-- the text before the first space, or the whole text if it has none
abbrev pub first_word : List ℕ → List ℕ
first_word text = option_map_or (λ (parts : List ℕ × List ℕ). parts.0) (two_parts text) text

-- the text after the first space, if there is one
abbrev pub arguments : List ℕ → Option (List ℕ)
arguments text = option_map (λ (parts : List ℕ × List ℕ). parts.1) (two_parts text)
