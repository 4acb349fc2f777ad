use Rattle.std.proofs.Common.{◌≡◌, ◌+◌, ◌≤◌, ◌||◌, length}
use Rattle.std.specs.Str.Lines.{lines}
use Rattle.batch_desk.specs.Answers.{IsInOrder}
use Rattle.batch_cli.specs.Shown.{calls_of, has_refused}
use Rattle.batch_cli.specs.Going.{Going}
use Rattle.batch_cli.proofs.replay.do_lines.Given as goal

abbrev pub invariant-loop-line : goal.invariant-loop-line
invariant-loop-line g l = record {
  going : Going g.K.Keeper.faults l.fn.desk l.desk (lines l.script) (lines l.rest) l.n (g.W.Sink.taken l.fn.sink) (g.W.Sink.taken l.sink);
  in_order : IsInOrder g.K.Keeper.told g.K.Keeper.faults l.desk;
  few : l.n + length l.rest ≤ length l.script + 1;
  calls : l.tally.calls + length (calls_of (lines l.rest)) ≡ length (calls_of (lines l.script));
  made : l.tally.calls + 1 ≤ l.n;
  refused : (l.tally.refused || has_refused (lines l.rest)) ≡ has_refused (lines l.script);
  keeper_later : g.K.Keeper.faults l.fn.desk.keeper ≤ g.K.Keeper.faults l.desk.keeper;
  later : g.W.Sink.faults l.fn.sink ≤ g.W.Sink.faults l.sink;
}

abbrev pub decreases-loop-line : goal.decreases-loop-line
decreases-loop-line g l = length l.rest
