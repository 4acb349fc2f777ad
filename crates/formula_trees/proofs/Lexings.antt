-- Steps of lexing.
use Rattle.std.proofs.Common.{◌≡◌, ℕ, zero, suc, ◌+◌, ◌-◌, ◌<◌, List, [], ◌∷◌, ◌++◌, length, take, drop, get_or, drop-cons, Result, Ok, Err, refl, sym, ap, ◌∙◌}
use Rattle.std.proofs.Common.{subst, arith, add-one, append-nil}
use Rattle.std.proofs.lemmas.Grind.{common_steps}
use Rattle.std.proofs.lemmas.List.{drop-drop}
use Rattle.bt_base.specs.Fails.{Fails}
use Rattle.bt_base.specs.declared.fail.Fail.{Fail}
use Rattle.bt_base.specs.declared.fail.Fail.TheVariants.{Memory, Why}
use Rattle.formula_trees.specs.Lexing.{prepended, with_piece, tokens_in, Takes}
use Rattle.formula_trees.specs.Pieces.{piece_at}
use Rattle.formula_trees.specs.declared.lex_fault.LexFault.{LexFault}
use Rattle.formula_trees.specs.declared.piece.Piece.{Piece}
use Rattle.formula_trees.specs.declared.token.Token.{Token}

-- what follows a place of a list, as a slice has it
pub all_after : (n : ℕ) (text : List ℕ) → take (length text - n) (drop n text) ≡ drop n text
all_after n text = grind (arith, common_steps)

pub prepended_none : (r : Result (List Token) LexFault) → prepended [] r ≡ r
prepended_none (Ok tokens) = refl
prepended_none (Err fault) = refl

-- bytes that are skipped
skipped : (text : List ℕ) (k p : ℕ) → tokens_in text k p ≡ tokens_in (drop k text) 0 (p + k)
skipped [] zero p = refl
skipped [] (suc k) p = refl
skipped (b ∷ rest) zero p = let e : p ≡ p + 0 = omega arith in ap (tokens_in (b ∷ rest) 0) e
skipped (b ∷ rest) (suc k) p = let e : p + 1 + k ≡ p + suc k = omega arith in skipped rest k (p + 1) ∙ ap (tokens_in (drop k rest) 0) e

next_piece : (text : List ℕ) (at : ℕ) → at < length text →
    tokens_in (drop at text) 0 at ≡ with_piece at (piece_at at (get_or text at 0) (drop (at + 1) text)) (λ more. tokens_in (drop (at + 1) text) more (at + 1))
next_piece text at h =
    let s : suc at ≡ at + 1 = omega arith in
    ap (λ (x : List ℕ). tokens_in x 0 at) (drop-cons text at 0 h)
    ∙ ap (λ (n : ℕ). with_piece at (piece_at at (get_or text at 0) (drop n text)) (λ more. tokens_in (drop n text) more (at + 1))) s

-- the tokens after a piece that was taken
pub took : (text : List ℕ) (at more : ℕ) (old new : List Token) (piece : Piece) (all : Result (List Token) LexFault) → at < length text →
    piece ≡ piece_at at (get_or text at 0) (drop (at + 1) text) → all ≡ prepended old (tokens_in (drop at text) 0 at) →
    prepended old (with_piece at piece (λ m. tokens_in (drop (at + 1) text) m (at + 1))) ≡ prepended new (tokens_in (drop (at + 1) text) more (at + 1)) →
    all ≡ prepended new (tokens_in (drop (at + 1 + more) text) 0 (at + 1 + more))
took text at more old new piece all h e f g =
    f
    ∙ ap (prepended old) (next_piece text at h)
    ∙ ap (λ (q : Piece). prepended old (with_piece at q (λ m. tokens_in (drop (at + 1) text) m (at + 1)))) (sym e)
    ∙ g
    ∙ ap (prepended new) (skipped (drop (at + 1) text) more (at + 1) ∙ ap (λ (x : List ℕ). tokens_in x 0 (at + 1 + more)) (drop-drop more (at + 1) text))

-- the fault of a piece, or out of memory
pub failed : (text : List ℕ) (at : ℕ) (old new : List Token) (piece : Piece) (e : Fail LexFault) (all : Result (List Token) LexFault) → at < length text →
    piece ≡ piece_at at (get_or text at 0) (drop (at + 1) text) → all ≡ prepended old (tokens_in (drop at text) 0 at) →
    Takes old new at piece (λ m. tokens_in (drop (at + 1) text) m (at + 1)) (Err e) → Fails e all
failed text at old new piece Memory all h e f g = tt
failed text at old new piece (Why fault) all h e f g =
    f
    ∙ ap (prepended old) (next_piece text at h ∙ ap (λ (q : Piece). with_piece at q (λ m. tokens_in (drop (at + 1) text) m (at + 1))) (sym e) ∙ g)

-- the end of the text
pub ended : (text : List ℕ) (at : ℕ) (tokens : List Token) (all : Result (List Token) LexFault) → drop at text ≡ [] →
    all ≡ prepended tokens (tokens_in (drop at text) 0 at) → all ≡ Ok tokens
ended text at tokens all e f = f ∙ ap (λ (x : List ℕ). prepended tokens (tokens_in x 0 at)) e ∙ ap Ok (append-nil tokens)
