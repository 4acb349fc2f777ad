use Rattle.std.proofs.Common.{sym, subst}
use Rattle.bt_base.specs.Fails.{Fails}
use Rattle.wire_lines.specs.Lines.{line_of}
use Rattle.batch_cli.specs.Advance.{Did, Halts}
use Rattle.batch_cli.proofs.Advancing.{did_refusal, cut_refusal, at_err_anyway}
use Rattle.batch_cli.proofs.line.do_line.Goals as goal

pub returns-in_err-do_refusal-in-Err-Why-clause-err : goal.returns-in_err-do_refusal-in-Err-Why-clause-err
returns-in_err-do_refusal-in-Err-Why-clause-err g c =
    at_err_anyway _
    (subst (λ request. Halts g.K.Keeper.faults c.args.desk.now c.args.desk.now c.args.n request (g.W.Sink.taken c.args.sink.now)
    (g.W.Sink.taken c.do_refusal.new.sink)) (sym (subst (λ f. Fails f (line_of c.args.line.now)) c.in-Err-Why.field-0-is c.in-Err-Why.ensures))
    (cut_refusal g.K.Keeper.faults c.args.desk.now c.args.n c.in-Err-Why.refusal _ _ c.in_err-do_refusal-in-Err-Why.ensures.err))

pub returns-in_ok-do_refusal-in-Err-Why-clause-ok : goal.returns-in_ok-do_refusal-in-Err-Why-clause-ok
returns-in_ok-do_refusal-in-Err-Why-clause-ok g c =
    subst (λ request. Did g.K.Keeper.faults c.args.desk.now c.args.desk.now c.args.n request (g.W.Sink.taken c.args.sink.now)
    (g.W.Sink.taken c.do_refusal.new.sink)) (sym (subst (λ f. Fails f (line_of c.args.line.now)) c.in-Err-Why.field-0-is c.in-Err-Why.ensures))
    (did_refusal g.K.Keeper.faults c.args.desk.now c.args.n c.in-Err-Why.refusal _ _ c.in_ok-do_refusal-in-Err-Why.ensures.ok)
