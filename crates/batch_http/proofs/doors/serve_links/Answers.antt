use Rattle.std.proofs.Common.{arith}
use Rattle.batch_http.proofs.Serving.{nothing, one_more, all}
use Rattle.batch_http.proofs.doors.serve_links.Goals as goal

pub loop-init : goal.loop-init
loop-init g c = record {
  none_out = c.requires.none_out;
  later = omega arith;
  so_far = nothing g.A.Ask.exchanged g.C.Clock.gives g.N.Listener.accepted g.N.Listener.taken_back
      g.N.Link.Link.left g.N.Link.Link.taken g.N.Link.Link.faults
      (record { service = c.args.service.now; listener = c.args.listener.now });
}

pub loop-preserved : goal.loop-preserved
loop-preserved g c = record {
  none_out = c.in-Ok.ensures.none_out;
  later = omega (arith, c.loop.invariant.later, c.in-Ok.ensures.later);
  so_far = one_more g.A.Ask.exchanged g.C.Clock.gives g.N.Listener.accepted g.N.Listener.taken_back
      g.N.Link.Link.left g.N.Link.Link.taken g.N.Link.Link.faults
      (record { service = c.args.service.now; listener = c.args.listener.now })
      (record { service = c.loop.service; listener = c.loop.listener })
      (record { service = c.serve_next.new.service; listener = c.serve_next.new.listener })
      c.loop.met_memory c.is_memory-met_memory.result c.in-Ok.end
      c.loop.invariant.so_far c.is_memory-met_memory.ensures c.in-Ok.ensures.served;
}

pub returns-in-Err-Ended-clause-served : goal.returns-in-Err-Ended-clause-served
returns-in-Err-Ended-clause-served g c =
    all g.A.Ask.exchanged g.C.Clock.gives g.N.Listener.accepted g.N.Listener.taken_back
    g.N.Link.Link.left g.N.Link.Link.taken g.N.Link.Link.faults
    (record { service = c.args.service.now; listener = c.args.listener.now })
    (record { service = c.loop.service; listener = c.loop.listener })
    (record { service = c.serve_next.new.service; listener = c.serve_next.new.listener })
    c.loop.met_memory c.loop.invariant.so_far c.in-Err-Ended.ensures.served

pub returns-in-Err-Failed-clause-served : goal.returns-in-Err-Failed-clause-served
returns-in-Err-Failed-clause-served g c =
    all g.A.Ask.exchanged g.C.Clock.gives g.N.Listener.accepted g.N.Listener.taken_back
    g.N.Link.Link.left g.N.Link.Link.taken g.N.Link.Link.faults
    (record { service = c.args.service.now; listener = c.args.listener.now })
    (record { service = c.loop.service; listener = c.loop.listener })
    (record { service = c.serve_next.new.service; listener = c.serve_next.new.listener })
    c.loop.met_memory c.loop.invariant.so_far c.in-Err-Failed.ensures.served
