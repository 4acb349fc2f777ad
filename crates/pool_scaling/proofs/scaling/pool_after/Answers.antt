use Rattle.std.proofs.Common.{◌≡◌, Some, sym, ◌∙◌, ap, rules}
use Rattle.batch_model.specs.Scaling.{pool_after, resized_unless_reached}
use Rattle.pool_scaling.proofs.scaling.pool_after.Goals as goal

pub returns-in_ok-row-in-Some : goal.returns-in_ok-row-in-Some
returns-in_ok-row-in-Some c =
    let s = c.args.tables.now.state in
    let given : c.args.given ≡ Some (c.in-Some.targets, c.in-Some.option) = search rules in
    c.resized_unless_reached.ensures ∙ ap (resized_unless_reached s) c.in_ok-row-in-Some.ensures ∙ sym (ap (pool_after s c.args.pool.now) given)
