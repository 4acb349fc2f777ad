use Rattle.std.proofs.Common.{◌≡◌}
use Rattle.counted_lock.specs.Passes.{IsPassOf}
use Rattle.batch_crew.specs.Lanes.{AreTurns, RanFor}
use Rattle.batch_crew.proofs.lane.run_lane.Given as goal

abbrev pub invariant-loop : goal.invariant-loop
invariant-loop g l = record {
  pass : IsPassOf l.desk l.pass;
  number : l.pass.number ≡ l.initial.pass.number;
  turns : AreTurns l.desk.origin l.seat (RanFor g.S.Spawner.ran g.S.Spawner.faults) g.C.Clock.gives g.C.Clock.pauses
      (record { pass = l.initial.pass; clock = l.initial.clock }) l.initial.spawner (record { pass = l.pass; clock = l.clock }) l.spawner;
}
