use Rattle.std.proofs.Common.{ap, sym, subst, Option, IfOk}
use Rattle.std.specs.Option.{option_and_then}
use Rattle.batch_model.specs.JobRules.{release_for}
use Rattle.batch_model.specs.Steps.{DueStep}
use Rattle.machine_plans.specs.Plans.{IsRule}
use Rattle.job_rules.proofs.release.release_at.Goals as goal

pub returns-in-None : goal.returns-in-None
returns-in-None c =
    sym (ap (option_and_then (release_for c.args.tables.now.state c.args.prep.now c.args.node.now)) c.in-None.ensures)

pub returns-in-Some : goal.returns-in-Some
returns-in-Some c =
    subst (λ (rule : Option DueStep). IfOk c.release_for.result (IsRule rule c.args.tables.now.state))
    (ap (option_and_then (release_for c.args.tables.now.state c.args.prep.now c.args.node.now)) c.in-Some.ensures)
    c.release_for.ensures
