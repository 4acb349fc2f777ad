use Rattle.std.proofs.Common.{sym, ◌∙◌}
use Rattle.batch_cli.proofs.Drills.{call_settles}
use Rattle.batch_cli.proofs.drill.make_call.Goals as goal

pub returns-else-ends-clause-ok : goal.returns-else-ends-clause-ok
returns-else-ends-clause-ok g c =
    call_settles g.K.Keeper.faults c.args.call.0 c.args.call.1 c.call-answer.result c.call-answer.ensures.later c.requires c.call-answer.ensures.answers
    (sym c.ran_out-ends.ensures ∙ c.if-ends.false)
