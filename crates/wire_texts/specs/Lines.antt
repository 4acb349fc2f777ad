-- Words, lines and numbered lines.
use Rattle.std.specs.Prelude.{ℕ, List, [], ◌∷◌, ◌++◌}
use Rattle.std.specs.Fmt.{decimal}

-- words separated by one space
abbrev pub words : List (List ℕ) → List ℕ
words [] = []
words (word ∷ []) = word
words (word ∷ next ∷ rest) = word ++ 32 ∷ words (next ∷ rest)

-- words separated by one space, and a line feed
abbrev pub line : List (List ℕ) → List ℕ
line [] = 10 ∷ []
line (word ∷ []) = word ++ 10 ∷ []
line (word ∷ next ∷ rest) = word ++ 32 ∷ line (next ∷ rest)

-- a text after the number of the line that it answers
unfoldable pub numbered : ℕ → List ℕ → List ℕ
numbered n text = decimal n ++ (32 ∷ text ++ 10 ∷ [])
