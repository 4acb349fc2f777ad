use Rattle.std.proofs.Common.{◌≡◌, ◌≤◌}
use Rattle.batch_desk.proofs.DueRuns.{DuesSo, turns_left}
use Rattle.batch_desk.proofs.saved_machine.SavedMachine.add_due_steps.Given as goal

abbrev pub invariant-loop-alloc : goal.invariant-loop-alloc
invariant-loop-alloc g l = record {
  so : DuesSo l.fn.self.seats l.dues.items l.fn.self.state l.self.state;
  seats : l.self.seats ≡ l.fn.self.seats;
  later : g.K.Keeper.faults l.fn.self.keeper ≤ g.K.Keeper.faults l.self.keeper;
}

abbrev pub decreases-loop-alloc : goal.decreases-loop-alloc
decreases-loop-alloc g l = turns_left l.self.seats l.self.state
