use Rattle.std.proofs.Common.{length}
use Rattle.http_link.proofs.Writing.{Wrote}
use Rattle.http_link.proofs.link.write_all.Given as goal

abbrev pub invariant-loop-rest : goal.invariant-loop-rest
invariant-loop-rest g l = Wrote g.L.Link.taken g.L.Link.left g.L.Link.faults l.fn.link l.link l.piece l.rest

abbrev pub decreases-loop-rest : goal.decreases-loop-rest
decreases-loop-rest g l = length l.rest
