use Rattle.std.proofs.Common.{◌≡◌, false, true, Err, sym, ◌∙◌, ap, subst, rules}
use Rattle.std.proofs.lemmas.Result.{err_from_is_err_and}
use Rattle.formula_trees.specs.View.{statements_of}
use Rattle.batch_model.specs.Scaling.{evaluate_autoscale}
use Rattle.batch_model.specs.WellFormed.{scales}
use Rattle.machine_plans.specs.Plans.{IsAnswer, IsPlanOf, IsRefused, with_moment}
use Rattle.pool_scaling.proofs.Shown.{refused_by, shown}
use Rattle.pool_scaling.proofs.requests.evaluate_found.Goals as goal

pub returns-in_err-formula : goal.returns-in_err-formula
returns-in_err-formula c =
    let s = c.args.indexed.now.state in
    let now = c.args.now in
    let text = c.args.text.now in
    let pool = c.args.pool.now in
    let not_deleted : pool.deleting ≡ false = search rules in
    let scaling : scales s pool.id ≡ true = search rules in
    let p = err_from_is_err_and c.from_residual.result c.from_residual.ensures.1 in
    subst (IsAnswer now (evaluate_autoscale (with_moment now s) text pool) s) (sym (p.1 ∙ ap Err p.2))
    (refused_by now s text pool not_deleted scaling c.in_err-formula.field-0.0 c.in_err-formula.ensures)

pub returns : goal.returns
returns c =
    let s = c.args.indexed.now.state in
    let now = c.args.now in
    let pool = c.args.pool.now in
    let not_deleted : pool.deleting ≡ false = search rules in
    let scaling : scales s pool.id ≡ true = search rules in
    let formula = c.in_ok-formula.formula in
    let first = c.in_ok-show.ensures in (
      subst (λ answer. IsPlanOf answer s c.in_ok-show.field-0)
          (shown now s c.args.text.now pool not_deleted scaling formula.text (statements_of formula.statements.items) c.in_ok-formula.ensures) first,
      λ refused. subst IsRefused first.reply refused,
    )
