use Rattle.batch_schedule.proofs.TurnParts.{turn_had}
use Rattle.batch_schedule.proofs.turn.run_turn.Goals as goal

pub returns : goal.returns
returns g c =
    turn_had g.A.Ask.exchanged c.args.now c.args.row.now c.retry_and_fire.new.row c.complete_at.new.self c.args.asker.now c.retry_and_fire.new.asker
    c.args.fires.now.items c.retry_and_fire.new.fires.items c.complete_at.ensures
    (rw c.if-not-retry_and_fire.false at c.retry_and_fire.ensures)
