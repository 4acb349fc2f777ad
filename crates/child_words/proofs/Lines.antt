-- A command line has words.
use Rattle.std.proofs.Common.{◌≡◌, ℕ, ◌<◌, true, List, [], ◌∷◌, length, Option, Some, None, Ok, Err, ap, arith}
use Rattle.std.specs.Prelude.{is_ok}
use Rattle.std.proofs.lemmas.Bool.{and_parts}
use Rattle.bt_base.specs.CommandLines.{Piece, Outside, pieces_at, words_in, some_words, words_or_fault, read_words, is_command_line}
use Rattle.bt_base.specs.declared.line.LineFault.{LineFault}

-- its words are read
pub no_fault : (line : List ℕ) (fault : LineFault) → is_command_line line ≡ true → read_words line ≡ Err fault → ⊥
unfolding is_command_line
no_fault line fault h e = let read = rw e at ((and_parts _ (is_ok (read_words line)) h).1) in cc

-- there is at least one
some_in : (found words : List (List ℕ)) → some_words found ≡ Ok words → 0 < length words
some_in [] words e = cc
some_in (word ∷ others) words e = let same : word ∷ others ≡ words = cc in omega (arith, ap length same)

some_of : (pieces : Option (List Piece)) (words : List (List ℕ)) → words_or_fault pieces ≡ Ok words → 0 < length words
some_of None words e = cc
some_of (Some pieces) words e = some_in (words_in pieces) words e

pub some_read : (line : List ℕ) (words : List (List ℕ)) → read_words line ≡ Ok words → 0 < length words
unfolding read_words
some_read line words e = some_of (pieces_at Outside line) words e
