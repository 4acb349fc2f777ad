use Rattle.std.proofs.Common.{ap, Err}
use Rattle.batch_desk.proofs.Entering.{called_failed, made_by_finish}
use Rattle.batch_desk.proofs.call.make_call.Goals as goal

pub returns-in-Ok-clause-called : goal.returns-in-Ok-clause-called
returns-in-Ok-clause-called g c =
    made_by_finish g.K.Keeper.faults c.args.saved.now c.event.new.self c.finish-dues.new.saved c.args.entries.now.items c.finish-dues.new.entries.items
    c.args.moment c.args.event c.in-Ok.reply c.finish-dues.result.0 c.finish-dues.result.1 c.in-Ok.ensures.ok c.event.ensures.seats
    c.event.ensures.cause.later c.finish-dues.ensures.finished

pub returns-in-Err-clause-called : goal.returns-in-Err-clause-called
returns-in-Err-clause-called g c =
    called_failed g.K.Keeper.faults c.args.saved.now c.event.new.self c.args.entries.now.items c.enter_failed.new.entries.items c.args.moment c.args.event
    c.in-Err.error c.enter_failed.result c.enter_failed.ensures c.in-Err.ensures.err (λ e. c.in-Err.ensures.cause.failed (ap (λ x. Err x) e))
