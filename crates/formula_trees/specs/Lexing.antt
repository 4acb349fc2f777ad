-- The tokens of a text: what it has at its places, from the first on, each piece right after the one before it.
use Rattle.std.specs.Prelude.{◌≡◌, ℕ, zero, suc, ◌+◌, List, [], ◌∷◌, ◌++◌, Result, Ok, Err}
use Rattle.bt_base.specs.declared.fail.Fail.{Fail}
use Rattle.bt_base.specs.declared.fail.Fail.TheVariants.{Memory, Why}
use Rattle.formula_trees.specs.Pieces.{more_of, piece_at}
use Rattle.formula_trees.specs.declared.lex_fault.LexFault.{LexFault}
use Rattle.formula_trees.specs.declared.piece.Piece.{Piece}
use Rattle.formula_trees.specs.declared.piece.Piece.TheVariants.{Gap, Lexeme, Wrong}
use Rattle.formula_trees.specs.declared.token.Kind.{Kind}
use Rattle.formula_trees.specs.declared.token.Token.{Token}

-- tokens before others, unless there is a fault
abbrev pub prepended : List Token → Result (List Token) LexFault → Result (List Token) LexFault
prepended done (Ok tokens) = Ok (done ++ tokens)
prepended done (Err fault) = Err fault

-- the token of a kind at a place, with `more` bytes after its first
abbrev pub token_at : Kind → ℕ → ℕ → Token
token_at k p more = record { kind = k; from = p; to = p + 1 + more }

-- the tokens that begin with a piece, from those after it
abbrev pub with_piece : ℕ → Piece → (ℕ → Result (List Token) LexFault) → Result (List Token) LexFault
with_piece p (Gap more) go = go more
with_piece p (Lexeme kind more) go = prepended (token_at kind p more ∷ []) (go more)
with_piece p (Wrong fault) go = Err fault

-- the tokens of a text that begins at this place, without its first `skip` bytes
abbrev pub tokens_in : List ℕ → ℕ → ℕ → Result (List Token) LexFault
tokens_in [] skip p = Ok []
tokens_in (b ∷ rest) (suc skip) p = tokens_in rest skip (p + 1)
tokens_in (b ∷ rest) zero p = with_piece p (piece_at p b rest) (λ more. tokens_in rest more (p + 1))

-- the tokens of a text, or its first fault
abbrev pub lexed : List ℕ → Result (List Token) LexFault
lexed text = tokens_in text 0 0

-- a piece at a place was added to the tokens before it
abbrev pub Takes : List Token → List Token → ℕ → Piece → (ℕ → Result (List Token) LexFault) → Result ℕ (Fail LexFault) → Type 0
Takes old new p piece go (Ok more) = (prepended old (with_piece p piece go) ≡ prepended new (go more)) × (more ≡ more_of piece)
Takes old new p piece go (Err Memory) = Unit {0}
Takes old new p piece go (Err (Why fault)) = with_piece p piece go ≡ Err fault
