use Rattle.std.proofs.Common.{◌∙◌, sym, ap, subst}
use Rattle.std.specs.Prelude.{IfOk}
use Rattle.batch_model.specs.Events.{accept}
use Rattle.machine_plans.specs.Plans.{IsPlanOf}
use Rattle.job_machine.specs.Endings.{with_end}
use Rattle.job_machine.proofs.EndingPuts.{end_put}
use Rattle.job_machine.proofs.PreparationPuts.{not_prepared}
use Rattle.job_machine.proofs.preparing.end_preparation.Goals as goal

pub returns-in_ok-ended-in-None : goal.returns-in_ok-ended-in-None
returns-in_ok-ended-in-None c =
    let s = c.args.tables.now.state in
    let run = c.args.run.now in
    let prep = c.args.prep.now in
    subst (λ answered. IfOk c.accept_one.result (IsPlanOf answered s))
    (ap (accept 200)
    (end_put s c.requires.keys run c.requires.there c.args.now c.args.ending c.in_ok-ended-in-None.ended c.in_ok-ended-in-None.ensures
    ∙ sym (not_prepared prep run c.args.ending (with_end c.args.now c.args.ending run s) c.if-run.false (sym c.is_success.ensures ∙ c.if-is_success.false) (sym c.in-None.ensures))))
    c.accept_one.ensures
