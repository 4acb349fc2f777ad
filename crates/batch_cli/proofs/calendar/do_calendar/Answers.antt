use Rattle.std.proofs.Common.{subst, OnErr, IfOk}
use Rattle.std.specs.Str.Lines.{lines}
use Rattle.byte_streams.specs.Content.{GainsFront}
use Rattle.wire_texts.specs.Tables.{tables_text}
use Rattle.batch_cli.specs.CalendarGoing.{CalPart, LinesDone}
use Rattle.batch_cli.proofs.CalendarGoingOn.{done_cut}
use Rattle.batch_cli.proofs.calendar.do_calendar.Goals as goal

pub returns-in-Err-clause-err : goal.returns-in-Err-clause-err
returns-in-Err-clause-err g c =
    rw (← c.deref.ensures.value)
    (subst (λ r. OnErr r (CalPart g.K.Keeper.faults c.args.desk c.run_lines-done.result.1 (lines c.deref.result.now) (g.W.Sink.taken c.args.sink.now)
    (g.W.Sink.taken c.run_lines-done.new.sink))) c.in-Err.is c.run_lines-done.ensures.err)

pub returns-in-Err-finish-clause-err : goal.returns-in-Err-finish-clause-err
returns-in-Err-finish-clause-err g c =
    rw (← c.deref.ensures.value)
    (done_cut _ (subst (λ r. IfOk r (LinesDone g.K.Keeper.faults c.args.desk c.run_lines-done.result.1 (lines c.deref.result.now)
    (g.W.Sink.taken c.args.sink.now) (g.W.Sink.taken c.run_lines-done.new.sink))) c.in-Ok.is c.run_lines-done.ensures.ok)
    (subst (λ s. GainsFront (g.W.Sink.taken c.run_lines-done.new.sink) (g.W.Sink.taken c.finish.new.sink) (tables_text s)) c.tables.ensures.state
    c.in-Err-finish.ensures.err))
