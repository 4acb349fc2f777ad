use Rattle.std.proofs.Common.{◌≡◌, ◌<◌, ◌≤◌, ◌+◌, ◌-◌, length}
use Rattle.http_link.specs.declared.room.TheConstants.{FILL_BYTES}
use Rattle.http_serving.specs.Reading.{Grows}
use Rattle.http_serving.proofs.messages.find_body.Given as goal

abbrev pub invariant-body : goal.invariant-body
invariant-body g l = record {
  grows : Grows (g.L.Link.left l.fn.link) (g.L.Link.left l.link) l.fn.buffer.items l.buffer.items;
  few : length l.buffer.items < l.len + FILL_BYTES;
  same_taken : g.L.Link.taken l.link ≡ g.L.Link.taken l.fn.link;
  later : g.L.Link.faults l.fn.link ≤ g.L.Link.faults l.link;
}

abbrev pub decreases-body : goal.decreases-body
decreases-body g l = l.len - length l.buffer.items
