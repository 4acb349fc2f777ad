use Rattle.std.proofs.Common.{ap, subst}
use Rattle.std.specs.Prelude.{IfOk}
use Rattle.batch_model.specs.Events.{accept}
use Rattle.machine_plans.specs.Plans.{IsPlanOf, with_moment}
use Rattle.machine_plans.proofs.EventPuts.{task_put}
use Rattle.task_requests.proofs.task.put_new_task.Goals as goal

pub returns : goal.returns
returns c =
    subst (λ answered. IfOk c.accept_one.result (IsPlanOf answered c.args.tables.now.state))
    (ap (accept 201) (task_put c.args.task (with_moment c.args.now c.args.tables.now.state) c.requires)) c.accept_one.ensures
