use Rattle.std.proofs.Common.{◌≡◌, ◌++◌}
use Rattle.std.specs.List.{repeat}
use Rattle.batch.specs.Crew.{roles_of, lanes_to}
use Rattle.batch.specs.Ready.{AreReady}
use Rattle.batch.proofs.service.workers.push_all_lanes.Given as goal

-- each seat has so many lanes more as rounds were counted
abbrev pub invariant-loop-round : goal.invariant-loop-round
invariant-loop-round g l = record {
  ready : AreReady l.workers.items;
  roles : roles_of l.workers.items ≡ roles_of l.fn.workers.items ++ repeat l._round (lanes_to l.seats);
}
