use Rattle.std.proofs.Common.{◌≡◌, ◌+◌, ◌≤◌, ◌||◌, length}
use Rattle.std.specs.Str.Lines.{lines}
use Rattle.batch_cli.specs.CalendarShown.{has_refused_line}
use Rattle.batch_cli.specs.CalendarAdvance.{KeepsDesk}
use Rattle.batch_cli.specs.CalendarGoing.{CalGoing}
use Rattle.batch_cli.proofs.calendar.do_lines.Given as goal

abbrev pub invariant-loop-line : goal.invariant-loop-line
invariant-loop-line g l = record {
  going : CalGoing g.K.Keeper.faults l.fn.calendar l.calendar (lines l.script) (lines l.rest) l.n (g.W.Sink.taken l.fn.sink) (g.W.Sink.taken l.sink)
      l.tally.calls;
  keeps : KeepsDesk g.K.Keeper.told g.K.Keeper.faults l.fn.calendar.asker l.calendar.asker;
  few : l.n + length l.rest ≤ length l.script + 1;
  refused : (l.tally.refused || has_refused_line (lines l.rest)) ≡ has_refused_line (lines l.script);
  later : g.W.Sink.faults l.fn.sink ≤ g.W.Sink.faults l.sink;
}

abbrev pub decreases-loop-line : goal.decreases-loop-line
decreases-loop-line g l = length l.rest
