use Rattle.batch_cli.proofs.DrillHeadlines.{drilled_opened}
use Rattle.batch_cli.proofs.drill.drill.Goals as goal

pub returns-in-Ok-clause-ran : goal.returns-in-Ok-clause-ran
returns-in-Ok-clause-ran g c =
    drilled_opened g.K.Keeper.told g.K.Keeper.faults c.args.count c.args.keeper c.close-keeper.result.0 c.in-Ok.desk c.run_desk-status.new.desk
    (g.W.Sink.taken c.args.sink.now) (g.W.Sink.taken c.run_desk-status.new.sink) c.run_desk-status.result c.in-Ok.ensures.begins c.in-Ok.ensures.opened
    c.in-Ok.ensures.later c.run_desk-status.ensures.in_order c.run_desk-status.ensures.ran c.close-keeper.ensures.keeper
