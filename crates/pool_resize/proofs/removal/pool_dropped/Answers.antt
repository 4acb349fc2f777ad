use Rattle.std.proofs.Common.{Ok, refl, ap, ◌∙◌}
use Rattle.bt_rows.specs.declared.due.Due.TheVariants.{PoolResized}
use Rattle.bt_rows.specs.declared.due.ResizeEnd.TheVariants.{Removed}
use Rattle.bt_rows.specs.declared.reply.Reply.TheVariants.{Step}
use Rattle.batch_model.specs.Dues.{pool_dropped}
use Rattle.machine_plans.proofs.DuePlans.{of_step}
use Rattle.pool_resize.specs.Changes.{removal}
use Rattle.pool_resize.proofs.PoolChanges.{removed}
use Rattle.pool_resize.proofs.removal.pool_dropped.Goals as goal

pub returns : goal.returns
returns c =
    let s = c.args.tables.now.state in
    let pool = c.args.pool.now in
    let due = PoolResized c.in_ok-copy.field-0 Removed in
    of_step (Ok (record { reply = Step due; changes = c.of_vec.result })) due (removal pool.id s) s (pool_dropped s pool)
    refl (c.of_vec.ensures ∙ c.in_ok-changes.ensures) (ap (λ id. PoolResized id Removed) c.in_ok-copy.ensures) (removed pool s c.requires)
