use Rattle.std.proofs.Common.{◌≡◌}
use Rattle.counted_lock.specs.Passes.{IsPassOf}
use Rattle.batch_crew.specs.Lanes.{AreFaults}
use Rattle.batch_crew.proofs.calls.tell.Given as goal

abbrev pub invariant-loop : goal.invariant-loop
invariant-loop g l = record {
  pass : IsPassOf l.desk l.pass;
  number : l.pass.number ≡ l.initial.pass.number;
  faults : AreFaults l.desk.origin g.C.Clock.gives l.run.0 l.run.1 (record { pass = l.initial.pass; clock = l.initial.clock })
      (record { pass = l.pass; clock = l.clock });
}
