-- The lines of a head, as far as it has come. The kit's `httparse` does not say of a head without an end how many of its fields
-- have come; the lines that have ended tell them.
use Rattle.std.specs.Prelude.{ℕ, Bool, ◌||◌, List, [], ◌∷◌, if◌then◌else◌, ◌==◌, count_by}

-- CR or LF
abbrev pub is_line_byte : ℕ → Bool
is_line_byte b = b == 13 || b == 10

abbrev pub is_line_feed : ℕ → Bool
is_line_feed b = b == 10

-- the bytes after the empty lines at the front, which a server ignores (RFC 9112, section 2.2)
abbrev pub skip_empty_lines : List ℕ → List ℕ
skip_empty_lines [] = []
skip_empty_lines (b ∷ bytes) = if is_line_byte b then skip_empty_lines bytes else b ∷ bytes

-- how many lines have ended, from the request line on
abbrev pub lines_ended : List ℕ → ℕ
lines_ended bytes = count_by is_line_feed (skip_empty_lines bytes)
