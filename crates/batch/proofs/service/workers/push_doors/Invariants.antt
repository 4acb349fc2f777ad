use Rattle.std.proofs.Common.{◌≡◌, ◌++◌, replicate}
use Rattle.batch.specs.Crew.{roles_of, DoorRole}
use Rattle.batch.specs.Ready.{AreReady}
use Rattle.batch.proofs.service.workers.push_doors.Given as goal

-- there are so many doors as were counted
abbrev pub invariant-loop-made : goal.invariant-loop-made
invariant-loop-made g l = record {
  ready : AreReady l.workers.items;
  roles : roles_of l.workers.items ≡ roles_of l.fn.workers.items ++ replicate l._made DoorRole;
}
