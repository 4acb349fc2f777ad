use Rattle.std.proofs.Common.{ap, sym, subst, OnErr, IfOk, ◌∙◌}
use Rattle.std.specs.Str.Lines.{lines}
use Rattle.batch_cli.specs.CalendarAdvance.{KeepsDesk}
use Rattle.batch_cli.specs.CalendarGoing.{CalPart, LinesDone}
use Rattle.batch_cli.specs.Shown.{memory_stops}
use Rattle.batch_cli.proofs.CalendarGoingOn.{new_calendar}
use Rattle.batch_cli.proofs.calendar.run_lines.Goals as goal

pub do_lines-done-requires-clause-new : goal.do_lines-done-requires-clause-new
do_lines-done-requires-clause-new g c = new_calendar c.args.desk c.new-calendar.result c.new-calendar.ensures c.requires.begins

pub returns-clause-ok : goal.returns-clause-ok
returns-clause-ok g c =
    subst (λ s. IfOk c.do_lines-done.result (LinesDone g.K.Keeper.faults s c.close-desk.result.0 (lines c.args.script.now) (g.W.Sink.taken c.args.sink.now)
    (g.W.Sink.taken c.do_lines-done.new.sink))) (ap (λ calendar. calendar.asker) c.new-calendar.ensures)
    (subst (λ d. IfOk c.do_lines-done.result (LinesDone g.K.Keeper.faults c.new-calendar.result.asker d (lines c.args.script.now)
    (g.W.Sink.taken c.args.sink.now) (g.W.Sink.taken c.do_lines-done.new.sink))) (sym c.close-desk.ensures.asker) c.do_lines-done.ensures.ok)

pub returns-clause-err : goal.returns-clause-err
returns-clause-err g c =
    subst (λ s. OnErr c.do_lines-done.result (CalPart g.K.Keeper.faults s c.close-desk.result.0 (lines c.args.script.now) (g.W.Sink.taken c.args.sink.now)
    (g.W.Sink.taken c.do_lines-done.new.sink))) (ap (λ calendar. calendar.asker) c.new-calendar.ensures)
    (subst (λ d. OnErr c.do_lines-done.result (CalPart g.K.Keeper.faults c.new-calendar.result.asker d (lines c.args.script.now)
    (g.W.Sink.taken c.args.sink.now) (g.W.Sink.taken c.do_lines-done.new.sink))) (sym c.close-desk.ensures.asker) c.do_lines-done.ensures.err)

pub returns-clause-settled : goal.returns-clause-settled
returns-clause-settled g c h = ap (λ d. memory_stops d.entries) c.close-desk.ensures.asker ∙ c.do_lines-done.ensures.settled h

pub returns-clause-keeps : goal.returns-clause-keeps
returns-clause-keeps g c =
    subst (λ s. KeepsDesk g.K.Keeper.told g.K.Keeper.faults s c.close-desk.result.0) (ap (λ calendar. calendar.asker) c.new-calendar.ensures)
    (subst (λ d. KeepsDesk g.K.Keeper.told g.K.Keeper.faults c.new-calendar.result.asker d) (sym c.close-desk.ensures.asker) c.do_lines-done.ensures.keeps)
