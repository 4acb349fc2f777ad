use Rattle.std.proofs.Common.{◌≡◌, ℕ, ◌+◌, length, drop, get_or, ap, ◌∙◌, arith}
use Rattle.std.proofs.lemmas.List.{length-drop}
use Rattle.formula_trees.specs.Lexing.{tokens_in}
use Rattle.formula_trees.specs.Pieces.{piece_at}
use Rattle.formula_trees.proofs.Lexings.{all_after, took, failed}
use Rattle.formula_trees.proofs.lexer.lex.Goals as goal

pub pieces-preserved : goal.pieces-preserved
pieces-preserved c =
    let text = c.as_bytes-bytes.result.now in
    let at = c.pieces.at in
    let found = c.find_piece-found in
    let taken = c.in-Ok.ensures (λ m. tokens_in (drop (at + 1) text) m (at + 1)) in
    let here = rw (all_after (at + 1) text) at found.ensures.value in
    let room = rw (all_after (at + 1) text) at found.ensures.within in
    record {
      within = omega (arith, taken.1, room, length-drop (at + 1) text);
      so_far = took text at c.in-Ok.more c.pieces.tokens.items c.take.new.tokens.items found.result _ c.pieces-test.true here c.pieces.invariant.so_far taken.0;
    }

pub returns-in-Err : goal.returns-in-Err
returns-in-Err c =
    let text = c.as_bytes-bytes.result.now in
    let at = c.pieces.at in
    let found = c.find_piece-found in
    let taken = c.in-Err.ensures (λ m. tokens_in (drop (at + 1) text) m (at + 1)) in
    let here = rw (all_after (at + 1) text) at found.ensures.value in
    rw (← c.as_bytes-bytes.ensures.value)
    (failed text at c.pieces.tokens.items c.take.new.tokens.items found.result c.in-Err.fail _ c.pieces-test.true here c.pieces.invariant.so_far taken)
