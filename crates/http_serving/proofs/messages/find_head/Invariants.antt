use Rattle.std.proofs.Common.{◌≡◌, ◌≤◌, ◌-◌, ◌+◌, ℕ, cond, length, IsFalse}
use Rattle.std.specs.Io.KnownBytes.{IsAtEnd}
use Rattle.http_head.specs.declared.heads.TheConstants.{HEAD_LIMIT}
use Rattle.http_serving.specs.Reading.{Grows}
use Rattle.http_serving.proofs.Nearing.{HasFewPast}
use Rattle.http_serving.proofs.messages.find_head.Given as goal

abbrev pub invariant-loop-head : goal.invariant-loop-head
invariant-loop-head g l = record {
  grows : Grows (g.L.Link.left l.fn.link) (g.L.Link.left l.link) l.fn.buffer.items l.buffer.items;
  few : HasFewPast l.buffer.items;
  at_end : IsFalse l.more → IsAtEnd (g.L.Link.left l.link);
  same_taken : g.L.Link.taken l.link ≡ g.L.Link.taken l.fn.link;
  later : g.L.Link.faults l.fn.link ≤ g.L.Link.faults l.link;
}

abbrev pub decreases-loop-head : goal.decreases-loop-head
decreases-loop-head g l = (HEAD_LIMIT - length l.buffer.items) + cond {A = ℕ} l.more 1 0
