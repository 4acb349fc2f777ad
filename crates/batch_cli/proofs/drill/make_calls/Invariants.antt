use Rattle.std.proofs.Common.{◌≤◌}
use Rattle.batch_desk.specs.Answers.{IsInOrder}
use Rattle.batch_cli.specs.Drilling.{calls_left, DrillGoing}
use Rattle.batch_cli.proofs.drill.make_calls.Given as goal

abbrev pub invariant-loop-next : goal.invariant-loop-next
invariant-loop-next g l = record {
  going : DrillGoing g.K.Keeper.faults l.fn.desk l.desk l.count l.stage;
  in_order : IsInOrder g.K.Keeper.told g.K.Keeper.faults l.desk;
  later : g.K.Keeper.faults l.fn.desk.keeper ≤ g.K.Keeper.faults l.desk.keeper;
}

abbrev pub decreases-loop-next : goal.decreases-loop-next
decreases-loop-next g l = calls_left l.stage
