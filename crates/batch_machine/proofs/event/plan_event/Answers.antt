use Rattle.std.proofs.Common.{◌≤◌, arith}
use Rattle.bt_base.specs.Moments.{last_moment}
use Rattle.batch_machine.proofs.event.plan_event.Goals as goal

pub plan_at-requires-clause-moment : goal.plan_at-requires-clause-moment
plan_at-requires-clause-moment c =
    let last : c.args.indexed.now.state.moment ≤ last_moment = c.requires.sound.limited.rows.moment in
    let given : c.args.moment ≤ last_moment = c.requires.moment in
    rw (c.later-now.ensures, c.tables.ensures) (omega (arith, last, given))
