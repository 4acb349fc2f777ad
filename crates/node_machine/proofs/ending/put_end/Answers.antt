use Rattle.std.proofs.Common.{ap, subst, ◌∙◌}
use Rattle.std.specs.Result.{IfOk}
use Rattle.batch_model.specs.Events.{accept}
use Rattle.machine_plans.specs.Plans.{IsPlanOf}
use Rattle.node_machine.proofs.StartPuts.{end_put}
use Rattle.node_machine.proofs.ending.put_end.Goals as goal

pub returns : goal.returns
returns c =
    let s = c.args.tables.now.state in
    subst (λ answered. IfOk c.accept_one.result (IsPlanOf answered s))
    (ap (accept 200) (end_put s c.args.run.now c.requires c.args.now c.args.ending c.in_ok-ended.ended (c.in_ok-ended.ensures ∙ c.in_ok-ended_run.ensures)))
    c.accept_one.ensures
