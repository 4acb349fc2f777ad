use Rattle.std.proofs.Common.{refl, ◌∙◌}
use Rattle.batch_crew.specs.Lanes.{none, more}
use Rattle.batch_crew.proofs.calls.tell.Goals as goal

pub loop-init : goal.loop-init
loop-init g c = record { pass = c.requires.pass; number = refl; faults = none _ }

pub loop-preserved : goal.loop-preserved
loop-preserved g c = record {
  pass = c.in_default.ensures.pass;
  number = c.in_default.ensures.number ∙ c.loop.invariant.number;
  faults = more _ _ _ c.loop.invariant.faults c.in_default.ensures.tells;
}
