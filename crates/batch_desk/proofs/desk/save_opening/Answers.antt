use Rattle.std.proofs.Common.{arith}
use Rattle.batch_desk.proofs.Causes.{failed_after}
use Rattle.batch_desk.proofs.Saved.{saves_to}
use Rattle.batch_desk.proofs.desk.save_opening.Goals as goal

pub save-requires : goal.save-requires
save-requires g c =
    let m = c.args.machine.now in
    saves_to (g.K.Keeper.told c.args.keeper.now) c.args.changes.now m.seats m.state c.requires c.tables.ensures.sound

pub returns-in-Err-clause-cause : goal.returns-in-Err-clause-cause
returns-in-Err-clause-cause g c =
    failed_after (g.K.Keeper.faults c.args.keeper.now) (g.K.Keeper.faults c.args.keeper.now) (g.K.Keeper.faults c.save.new.keeper) c.in-Err.error
    (omega arith) c.in-Err.ensures.cause
