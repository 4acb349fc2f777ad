use Rattle.std.proofs.Common.{◌≤◌, ◌<◌, ◌-◌, length}
use Rattle.http_link.specs.declared.room.TheConstants.{FILL_BYTES}
use Rattle.http_serving.specs.declared.connection.TheConstants.{MESSAGE_LIMIT}
use Rattle.http_serving.proofs.Advancing.{Going}
use Rattle.http_serving.proofs.connection.serve_link.Given as goal

abbrev pub invariant-loop-answered : goal.invariant-loop-answered
invariant-loop-answered g l = record {
  going : Going g.S.Service.answers l.fn.service l.service l.answered (g.L.Link.left l.fn.link) (g.L.Link.left l.link) l.buffer.items (g.L.Link.taken l.fn.link) (g.L.Link.taken l.link);
  few : l.answered ≤ MESSAGE_LIMIT;
  past : length l.buffer.items < FILL_BYTES;
  later : g.L.Link.faults l.fn.link ≤ g.L.Link.faults l.link;
}

abbrev pub decreases-loop-answered : goal.decreases-loop-answered
decreases-loop-answered g l = MESSAGE_LIMIT - l.answered
