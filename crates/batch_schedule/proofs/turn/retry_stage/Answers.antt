use Rattle.batch_schedule.proofs.Parts.{retry_idle}
use Rattle.batch_schedule.proofs.turn.retry_stage.Goals as goal

pub returns-in-Idle : goal.returns-in-Idle
returns-in-Idle g c =
    retry_idle g.A.Ask.exchanged c.args.now c.args.row.now c.args.asker.now c.args.fires.now.items c.in-Idle.ensures
