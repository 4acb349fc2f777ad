use Rattle.std.proofs.Common.{max, string_bytes}
use Rattle.std.proofs.lemmas.Result.{IfOk-weaker}
use Rattle.batch_cli.proofs.Advancing.{at_err_anyway}
use Rattle.batch_cli.proofs.CalendarAdvancing.{cal_shown_by, event_halts, event_keeps}
use Rattle.batch_cli.proofs.calendar.make_call.Goals as goal

pub returns-clause-ok : goal.returns-clause-ok
returns-clause-ok g c =
    IfOk-weaker c.show_output-shown.result _ _ (λ output shown. cal_shown_by g.K.Keeper.told g.K.Keeper.faults c.args.calendar.now c.call-answer.new.self
    c.args.n c.args.moment c.args.event c.call-answer.result (string_bytes output.text) output.calls c.requires c.call-answer.ensures shown)
    c.show_output-shown.ensures

pub returns-clause-err : goal.returns-clause-err
returns-clause-err g c =
    at_err_anyway _ (event_halts g.K.Keeper.told g.K.Keeper.faults c.args.calendar.now c.call-answer.new.self c.args.n c.args.moment c.args.event
    c.call-answer.result.first c.call-answer.result.fires c.call-answer.result.whole c.requires c.call-answer.ensures)

pub returns-clause-keeps : goal.returns-clause-keeps
returns-clause-keeps g c =
    event_keeps g.K.Keeper.told g.K.Keeper.faults (max c.args.calendar.now.now c.args.moment) c.args.calendar.now c.call-answer.new.self c.args.event
    c.call-answer.result.first c.call-answer.result.fires c.call-answer.result.whole c.requires c.call-answer.ensures
