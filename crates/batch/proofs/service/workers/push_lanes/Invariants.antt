use Rattle.std.proofs.Common.{◌≡◌, ◌++◌}
use Rattle.batch.specs.Crew.{roles_of, lanes_to}
use Rattle.batch.specs.Ready.{AreReady}
use Rattle.batch.proofs.service.workers.push_lanes.Given as goal

-- so many seats as were counted have a lane more
abbrev pub invariant-loop-index : goal.invariant-loop-index
invariant-loop-index g l = record {
  ready : AreReady l.workers.items;
  roles : roles_of l.workers.items ≡ roles_of l.fn.workers.items ++ lanes_to l.index;
}
