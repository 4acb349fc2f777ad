use Rattle.std.proofs.Common.{ap, subst}
use Rattle.std.specs.Prelude.{IfOk}
use Rattle.batch_model.specs.Answers.{accept}
use Rattle.batch_model.specs.Rows.{is_pool}
use Rattle.machine_plans.specs.Plans.{IsPlanOf, with_moment}
use Rattle.machine_plans.proofs.DuePuts.{pool_changed}
use Rattle.machine_plans.proofs.Moves.{keys_moved}
use Rattle.pool_resize.proofs.events.put_pool.Goals as goal

pub returns : goal.returns
returns c =
    let s = c.args.tables.now.state in
    let pool = c.args.pool.now in
    subst (λ answered. IfOk c.accept_one.result (IsPlanOf answered s))
    (ap (accept 202)
    (pool_changed (is_pool pool.id) pool c.args.row (with_moment c.args.now s) (keys_moved c.args.now s c.requires.keys) c.requires.there c.requires.same))
    c.accept_one.ensures
