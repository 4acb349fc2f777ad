use Rattle.std.proofs.Common.{◌≡◌, ◌-◌, length}
use Rattle.http_link.specs.Pieces.{left_in_pieces}
use Rattle.http_link.proofs.pieces.Pieces.read.Given as goal

abbrev pub invariant-loop-self : goal.invariant-loop-self
invariant-loop-self l = record {
  left : left_in_pieces l.self ≡ left_in_pieces l.fn.self;
  same : length l.room ≡ length l.fn.room;
}

abbrev pub decreases-loop-self : goal.decreases-loop-self
decreases-loop-self l = length l.self.pieces.items - l.self.piece
