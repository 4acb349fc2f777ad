use Rattle.std.proofs.Common.{◌∙◌, ap, subst}
use Rattle.std.specs.Prelude.{IfOk}
use Rattle.bt_rows.specs.Changes.{apply_change}
use Rattle.bt_rows.specs.declared.tables.Change.TheVariants.{DropScale}
use Rattle.batch_model.specs.Answers.{accept}
use Rattle.machine_plans.specs.Plans.{IsPlanOf, with_moment}
use Rattle.machine_plans.proofs.Moves.{keys_moved}
use Rattle.pool_scaling.proofs.ScalePuts.{scale_dropped}
use Rattle.pool_scaling.proofs.requests.drop_found.Goals as goal

pub returns : goal.returns
returns c =
    let s = c.args.tables.now.state in
    let now = c.args.now in
    let pool = c.args.pool.now in
    subst (λ answered. IfOk c.accept_one.result (IsPlanOf answered s))
    (ap (accept 200)
    (ap (λ id. apply_change (DropScale id) (with_moment now s)) c.in_ok-copy.ensures
    ∙ scale_dropped pool.id (with_moment now s) (keys_moved now s c.requires)))
    c.accept_one.ensures
