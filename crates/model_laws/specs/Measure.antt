-- Lists of numbers, compared from the first one on.
use Rattle.std.specs.Prelude.{ℕ, Bool, false, ◌&&◌, ◌||◌, nat_eq, nat_lt, List, [], ◌∷◌, length}

-- the first list is as long as the second, and below it at the first place where they differ
abbrev pub comes_below : List ℕ → List ℕ → Bool
comes_below [] xs = false
comes_below (y ∷ ys) [] = false
comes_below (y ∷ ys) (x ∷ xs) = (nat_lt y x && nat_eq (length ys) (length xs)) || (nat_eq y x && comes_below ys xs)
