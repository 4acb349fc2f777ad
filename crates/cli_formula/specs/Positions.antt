-- Lines and columns of places in a text.
use Rattle.std.specs.Prelude.{ℕ, ◌+◌, ◌==◌, Bool, not, List, length, take, reverse, count_by}
use Rattle.std.specs.List.{take_while}
use Rattle.cli_formula.specs.declared.position.Position.{Position}

-- the byte ends a line
abbrev pub is_line_feed : ℕ → Bool
is_line_feed b = b == 10

-- the number of the bytes after the last line feed, or of all if there is none
abbrev pub bytes_after_line_feed : List ℕ → ℕ
bytes_after_line_feed bytes = length (take_while (λ b. not (is_line_feed b)) (reverse bytes))

-- The position of the byte with this offset: its line is one more than the line feeds before it, and its column one more than
-- the bytes after the last of these.
abbrev pub position_of : List ℕ → ℕ → Position
position_of text offset =
    record { line = count_by is_line_feed (take offset text) + 1; column = bytes_after_line_feed (take offset text) + 1 }
