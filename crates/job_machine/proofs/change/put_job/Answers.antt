use Rattle.std.proofs.Common.{ap, subst}
use Rattle.std.specs.Prelude.{IfOk}
use Rattle.batch_model.specs.Events.{accept}
use Rattle.batch_model.specs.Rows.{is_job}
use Rattle.machine_plans.specs.Plans.{IsPlanOf, with_moment}
use Rattle.machine_plans.proofs.DuePuts.{job_changed}
use Rattle.machine_plans.proofs.Moves.{keys_moved}
use Rattle.job_machine.proofs.change.put_job.Goals as goal

pub returns : goal.returns
returns c =
    let s = c.args.tables.now.state in
    let job = c.args.job.now in
    subst (λ answered. IfOk c.accept_one.result (IsPlanOf answered s))
    (ap (accept c.args.status)
    (job_changed (is_job job.id) job c.args.row (with_moment c.args.now s) (keys_moved c.args.now s c.requires.keys) c.requires.there c.requires.same))
    c.accept_one.ensures
