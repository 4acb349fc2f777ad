use Rattle.std.proofs.Common.{ap, subst}
use Rattle.std.specs.Prelude.{IfOk}
use Rattle.batch_model.specs.Events.{accept}
use Rattle.batch_model.specs.Rows.{is_task}
use Rattle.machine_plans.specs.Plans.{IsPlanOf, with_moment}
use Rattle.machine_plans.proofs.DuePuts.{task_changed}
use Rattle.machine_plans.proofs.Moves.{keys_moved}
use Rattle.task_requests.proofs.task_events.put_task.Goals as goal

pub returns : goal.returns
returns c =
    let s = c.args.tables.now.state in
    let task = c.args.task.now in
    subst (λ answered. IfOk c.accept_one.result (IsPlanOf answered s))
    (ap (accept 204)
    (task_changed (is_task task.job task.id) task c.args.row (with_moment c.args.now s) (keys_moved c.args.now s c.requires.keys) c.requires.there c.requires.job
    c.requires.id))
    c.accept_one.ensures
