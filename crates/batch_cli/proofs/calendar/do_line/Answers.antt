use Rattle.std.proofs.Common.{refl, sym, subst, IfOk, OnErr}
use Rattle.bt_base.specs.Fails.{Fails}
use Rattle.batch_cli.specs.CalendarAdvance.{CalDid, CalHalts}
use Rattle.batch_cli.proofs.CalendarAdvancing.{keeps_itself}
use Rattle.batch_cli.proofs.CalendarGoingOn.{halts_at_once, refusal_did, refusal_halts}
use Rattle.schedule_lines.specs.Lines.{cal_line_of}
use Rattle.batch_cli.proofs.calendar.do_line.Goals as goal

pub returns-in-Err-Why-clause-ok : goal.returns-in-Err-Why-clause-ok
returns-in-Err-Why-clause-ok g c =
    subst (λ line. IfOk c.do_refusal.result (CalDid g.K.Keeper.faults c.args.calendar.now c.args.calendar.now c.args.n line (g.W.Sink.taken c.args.sink.now)
    (g.W.Sink.taken c.do_refusal.new.sink))) (sym (subst (λ f. Fails f (cal_line_of c.args.line.now)) c.in-Err-Why.field-0-is c.in-Err-Why.ensures))
    (refusal_did g.K.Keeper.faults c.args.calendar.now c.args.n c.in-Err-Why.refusal _ _ c.do_refusal.result c.do_refusal.ensures.ok
    c.do_refusal.ensures.tally)

pub returns-in-Err-Why-clause-err : goal.returns-in-Err-Why-clause-err
returns-in-Err-Why-clause-err g c =
    subst (λ line. OnErr c.do_refusal.result (CalHalts g.K.Keeper.faults c.args.calendar.now c.args.calendar.now c.args.n line
    (g.W.Sink.taken c.args.sink.now) (g.W.Sink.taken c.do_refusal.new.sink)))
    (sym (subst (λ f. Fails f (cal_line_of c.args.line.now)) c.in-Err-Why.field-0-is c.in-Err-Why.ensures))
    (refusal_halts g.K.Keeper.faults c.args.calendar.now c.args.n c.in-Err-Why.refusal _ _ c.do_refusal.result c.do_refusal.ensures.err)

pub returns-in-Err-Why-clause-keeps : goal.returns-in-Err-Why-clause-keeps
returns-in-Err-Why-clause-keeps g c = keeps_itself g.K.Keeper.told g.K.Keeper.faults c.args.calendar.now.asker c.requires

pub returns-in-Err-Memory-clause-err : goal.returns-in-Err-Memory-clause-err
returns-in-Err-Memory-clause-err g c =
    halts_at_once g.K.Keeper.faults c.args.calendar.now c.args.calendar.now c.args.n (cal_line_of c.args.line.now) (g.W.Sink.taken c.args.sink.now) refl

pub returns-in-Err-Memory-clause-keeps : goal.returns-in-Err-Memory-clause-keeps
returns-in-Err-Memory-clause-keeps g c = keeps_itself g.K.Keeper.told g.K.Keeper.faults c.args.calendar.now.asker c.requires
