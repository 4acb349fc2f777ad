use Rattle.std.proofs.Common.{◌≡◌, ℕ, ◌∙◌, ap, subst}
use Rattle.std.specs.Prelude.{IfOk}
use Rattle.batch_model.specs.Formulas.{formula_ran}
use Rattle.batch_model.specs.Scaling.{scaled_after}
use Rattle.batch_model.specs.Variants.{State}
use Rattle.machine_plans.specs.Plans.{IsPlanOf, answer_of_step, with_moment}
use Rattle.pool_scaling.specs.Evaluations.{ran_of}
use Rattle.pool_scaling.specs.declared.evaluation.Ran.{Ran}
use Rattle.pool_scaling.proofs.scaling.pool_scaled.Goals as goal

pub returns : goal.returns
returns c =
    let s = c.args.indexed.now.state in
    let pool = c.args.pool.now in
    let scale = c.args.scale.now in
    let at : c.moment_of-now.result ≡ s.moment =
    c.moment_of-now.ensures ∙ c.moment.ensures ∙ ap (λ (t : State). t.moment) c.tables.ensures
    in
    let ran : c.in_ok-ran.ran ≡ ran_of (formula_ran s pool scale.formula) =
    c.in_ok-ran.ensures
    ∙ ap (λ (now : ℕ). ran_of (formula_ran (with_moment now s) pool c.as_str.result.now)) at
    ∙ ap (λ text. ran_of (formula_ran s pool text)) c.as_str.ensures
    in
    subst (λ (r : Ran). IfOk c.plan_scale.result (IsPlanOf (answer_of_step (scaled_after s pool scale r.text r.given)) s)) ran
    (subst (λ (t : State). IfOk c.plan_scale.result (IsPlanOf (answer_of_step (scaled_after t pool scale c.in_ok-ran.ran.text c.in_ok-ran.ran.given)) t)) c.tables-2.ensures
    c.plan_scale.ensures)
