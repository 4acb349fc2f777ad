use Rattle.std.proofs.Common.{refl}
use Rattle.bt_rows.specs.Changes.{apply_changes}
use Rattle.batch_model.specs.Events.{accept}
use Rattle.machine_plans.specs.Plans.{with_moment}
use Rattle.machine_plans.proofs.Moves.{moved_plan}
use Rattle.machine_plans.proofs.listed.accept_listed.Goals as goal

pub returns : goal.returns
returns c =
    let s = c.args.tables.now.state in
    let changes = c.args.changes.items in
    moved_plan c.reply_listed.result c.args.now (accept c.args.status (apply_changes changes (with_moment c.args.now s))) s changes (λ refusal e. absurd (cc))
    c.reply_listed.ensures.reply c.reply_listed.ensures.changes refl
