-- What a link in memory has left of its pieces.
use Rattle.std.specs.Prelude.{ℕ, List, [], ◌∷◌, ◌++◌, drop, Vec}
use Rattle.std.specs.Global.{Global}
use Rattle.http_link.specs.declared.pieces.Pieces.{Pieces}

-- all the bytes, one piece after the other
abbrev pub joined : List (Vec ℕ Global) → List ℕ
joined [] = []
joined (piece ∷ pieces) = piece.items ++ joined pieces

-- the bytes from a place in the first piece on
abbrev pub rest_from : ℕ → List (Vec ℕ Global) → List ℕ
rest_from at [] = []
rest_from at (piece ∷ pieces) = drop at piece.items ++ joined pieces

-- the bytes that pieces have left
abbrev pub left_in_pieces : Pieces → List ℕ
left_in_pieces s = rest_from s.at (drop s.piece s.pieces.items)
