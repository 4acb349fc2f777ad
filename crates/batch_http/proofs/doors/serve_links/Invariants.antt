use Rattle.std.proofs.Common.{◌≡◌, ◌≤◌, false}
use Rattle.batch_http.specs.Doors.{HasServed}
use Rattle.batch_http.proofs.doors.serve_links.Given as goal

-- no link is out, and the links so far were served and handed back
abbrev pub invariant-loop : goal.invariant-loop
invariant-loop g l = record {
  none_out : g.N.Listener.is_out l.listener ≡ false;
  later : g.N.Listener.faults l.initial.listener ≤ g.N.Listener.faults l.listener;
  so_far : HasServed g.A.Ask.exchanged g.C.Clock.gives g.N.Listener.accepted g.N.Listener.taken_back
      g.N.Link.Link.left g.N.Link.Link.taken g.N.Link.Link.faults
      (record { service = l.initial.service; listener = l.initial.listener })
      (record { service = l.service; listener = l.listener }) l.met_memory;
}
