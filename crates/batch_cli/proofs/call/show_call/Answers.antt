use Rattle.std.proofs.Common.{string_bytes}
use Rattle.std.proofs.lemmas.Result.{IfOk-weaker}
use Rattle.batch_cli.proofs.Advancing.{call_shown_by, call_halts, at_err_anyway}
use Rattle.batch_cli.proofs.call.show_call.Goals as goal

pub returns-clause-ok : goal.returns-clause-ok
returns-clause-ok g c =
    IfOk-weaker c.show_if_going-shown.result _ _ (λ text shown. call_shown_by g.K.Keeper.faults c.args.n c.args.moment c.args.event c.call-answer.result
    (string_bytes text) c.call-answer.ensures.same c.call-answer.ensures.later c.call-answer.ensures.answers shown) c.show_if_going-shown.ensures

pub returns-clause-err : goal.returns-clause-err
returns-clause-err g c =
    at_err_anyway _ (call_halts g.K.Keeper.faults c.args.n c.args.moment c.args.event c.call-answer.result c.call-answer.ensures.same
    c.call-answer.ensures.later c.call-answer.ensures.answers)
