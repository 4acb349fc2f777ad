use Rattle.batch_schedule.proofs.TurnParts.{retried_and_fired}
use Rattle.batch_schedule.proofs.turn.retry_and_fire.Goals as goal

pub returns : goal.returns
returns g c =
    retried_and_fired g.A.Ask.exchanged c.args.now c.args.row.now c.retry_stage.new.row c.fire.new.row c.args.asker.now c.retry_stage.new.asker
    c.fire.new.asker c.args.fires.now.items c.retry_stage.new.fires.items c.fire.new.fires.items c.fire.result
    (rw c.if-not-retry_stage.false at c.retry_stage.ensures) c.fire.ensures
