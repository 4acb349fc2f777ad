use Rattle.std.proofs.Common.{sym, ap, ◌∙◌, ◌<◌, drop, take, length, arith}
use Rattle.http_link.proofs.Stepping.{part_taken}
use Rattle.http_link.proofs.pieces.Pieces.read.Goals as goal

pub returns-then-count-gt0-clause-bytes : goal.returns-then-count-gt0-clause-bytes
returns-then-count-gt0-clause-bytes c =
    let s = c.loop-self.self in
    let n = c.copy_front-count.result in
    let less : s.piece < length s.pieces.items = omega (arith, c.loop-self-test.true, c.len.ensures) in
    sym c.loop-self.invariant.left
    ∙ part_taken s.pieces.items s.piece s.at n c.index.result.now _ less
    (c.copy_front-count.ensures.copied ∙ ap (take n) (c.rest_of.ensures ∙ ap (drop s.at) (c.deref.ensures.value ∙ ap (λ v. v.items) c.index.ensures)))
