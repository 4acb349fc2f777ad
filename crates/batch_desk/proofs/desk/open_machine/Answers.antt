use Rattle.std.proofs.Common.{◌≤◌, arith}
use Rattle.batch_desk.proofs.Causes.{failed_after, no_failure}
use Rattle.batch_desk.proofs.desk.open_machine.Goals as goal

pub returns-in-Err-clause-cause : goal.returns-in-Err-clause-cause
returns-in-Err-clause-cause g c =
    failed_after (g.K.Keeper.faults c.args.keeper.now) (g.K.Keeper.faults c.load_machine.new.keeper) (g.K.Keeper.faults c.save_opening-opened.new.keeper)
    c.in-Err.error c.in_ok-machine.ensures.cause.later c.in-Err.ensures.cause

pub returns-in-Ok-clause-cause : goal.returns-in-Ok-clause-cause
returns-in-Ok-clause-cause g c =
    let first : g.K.Keeper.faults c.args.keeper.now ≤ g.K.Keeper.faults c.load_machine.new.keeper = c.in_ok-machine.ensures.cause.later in
    let second : g.K.Keeper.faults c.load_machine.new.keeper ≤ g.K.Keeper.faults c.save_opening-opened.new.keeper = c.in-Ok.ensures.cause.later in
    no_failure (g.K.Keeper.faults c.args.keeper.now) (g.K.Keeper.faults c.save_opening-opened.new.keeper) (c.in_ok-machine.machine, c.in-Ok.opened) (omega arith)
