use Rattle.std.proofs.Common.{[], ◌∷◌, ◌+◌}
use Rattle.batch.specs.Crew.{LaneOf, roles_of, lanes_to}
use Rattle.batch.proofs.Roles.{grown, lanes_more}
use Rattle.batch.proofs.service.workers.push_lanes.Goals as goal

pub loop-index-preserved : goal.loop-index-preserved
loop-index-preserved g c = record {
  ready = c.in_ok-push_lane.ensures.ready;
  roles = grown (roles_of c.args.workers.now.items) (lanes_to c.loop-index.index) (LaneOf (c.loop-index.index + 1) ∷ [])
      c.in_ok-push_lane.ensures.roles c.loop-index.invariant.roles (lanes_more c.loop-index.index);
}
