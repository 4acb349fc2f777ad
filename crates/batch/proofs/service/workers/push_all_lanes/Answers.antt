use Rattle.std.specs.List.{repeat}
use Rattle.batch.specs.Crew.{roles_of, lanes_to}
use Rattle.batch.proofs.Roles.{grown, rounds_more}
use Rattle.batch.proofs.service.workers.push_all_lanes.Goals as goal

pub loop-round-preserved : goal.loop-round-preserved
loop-round-preserved g c = record {
  ready = c.in_ok-push_lanes.ensures.ready;
  roles = grown (roles_of c.args.workers.now.items) (repeat c.loop-round._round (lanes_to c.args.seats)) (lanes_to c.args.seats)
      c.in_ok-push_lanes.ensures.roles c.loop-round.invariant.roles (rounds_more c.loop-round._round (lanes_to c.args.seats));
}
