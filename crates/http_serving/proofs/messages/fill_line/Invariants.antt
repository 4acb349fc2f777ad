use Rattle.std.proofs.Common.{◌≡◌, ◌≤◌, ◌-◌, length}
use Rattle.http_head.specs.declared.heads.TheConstants.{HEAD_LIMIT}
use Rattle.http_serving.specs.Reading.{Grows}
use Rattle.http_serving.proofs.Nearing.{NoLineYet}
use Rattle.http_serving.proofs.messages.fill_line.Given as goal

abbrev pub invariant-line : goal.invariant-line
invariant-line g l = record {
  grows : Grows (g.L.Link.left l.fn.link) (g.L.Link.left l.link) l.fn.buffer.items l.buffer.items;
  no_line : NoLineYet l.fn.buffer.items l.buffer.items;
  longer : length l.fn.buffer.items ≤ length l.buffer.items;
  same_taken : g.L.Link.taken l.link ≡ g.L.Link.taken l.fn.link;
  later : g.L.Link.faults l.fn.link ≤ g.L.Link.faults l.link;
}

abbrev pub decreases-line : goal.decreases-line
decreases-line g l = HEAD_LIMIT - length l.buffer.items
