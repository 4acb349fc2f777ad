use Rattle.std.proofs.Common.{◌∙◌, ap}
use Rattle.batch_model.specs.Leaving.{leave}
use Rattle.batch_model.specs.PoolEvents.{is_leaving_from}
use Rattle.batch_model.specs.Variants.{ByRequeue}
use Rattle.machine_plans.specs.Plans.{with_moment}
use Rattle.pool_resize.proofs.PoolChanges.{deleted}
use Rattle.pool_resize.proofs.events.delete.Goals as goal

pub returns : goal.returns
returns c =
    let s = c.args.tables.now.state in
    let now = c.args.now in
    rw (c.in_ok-push_deletion.ensures)
    (deleted c.args.pool.now s c.requires.keys now c.requires.there c.in_ok-changes.changes.items
    (c.in_ok-changes.ensures ∙ ap (λ id. leave ByRequeue (is_leaving_from id) (with_moment now s)) (c.in_ok-copy.ensures)))
