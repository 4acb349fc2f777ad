use Rattle.std.proofs.Common.{◌≡◌, ℕ, ◌∙◌, ap}
use Rattle.formula_trees.specs.View.{statements_of}
use Rattle.formula_eval.specs.Statements.{evaluated}
use Rattle.batch_model.specs.Formulas.{or_error, pool_metrics, ran_text, start_targets}
use Rattle.pool_scaling.specs.declared.evaluation.Ran.{Ran}
use Rattle.pool_scaling.proofs.Shown.{shows}
use Rattle.pool_scaling.proofs.requests.show.Goals as goal

pub returns : goal.returns
returns c =
    let s = c.args.indexed.now.state in
    let now = c.args.now in
    let pool = c.args.pool.now in
    let formula = c.args.formula.now in
    let text = λ (at : ℕ). ran_text (or_error (evaluated formula.text (statements_of formula.statements.items) (pool_metrics s pool) at (start_targets pool))) in
    let copied : c.in_ok-copy.field-0 ≡ text now =
    c.in_ok-copy.ensures ∙ ap (λ (ran : Ran). ran.text) c.in_ok-ran.ensures ∙ ap text c.moment_of.ensures
    in
    shows c.reply_listed.result now s (text now) c.in_ok-copy.field-0 c.new.result.items copied c.new.ensures.items c.reply_listed.ensures.reply
    (rw c.tables.ensures at c.reply_listed.ensures.changes)
