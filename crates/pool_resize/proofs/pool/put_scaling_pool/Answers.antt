use Rattle.std.proofs.Common.{[], ◌∷◌}
use Rattle.bt_rows.specs.declared.tables.Change.TheVariants.{PutPool, PutScale}
use Rattle.batch_model.specs.Events.{accept}
use Rattle.batch_model.specs.Rows.{add_pool_row}
use Rattle.batch_model.specs.Scaling.{add_scale_row}
use Rattle.machine_plans.specs.Plans.{with_moment}
use Rattle.machine_plans.proofs.Moves.{moved_plan}
use Rattle.pool_resize.proofs.PoolAdded.{scaling_pool_added}
use Rattle.pool_resize.proofs.pool.put_scaling_pool.Goals as goal

pub returns : goal.returns
returns c =
    let s = c.args.tables.now.state in
    let now = c.args.now in
    moved_plan c.accept_two.result now (accept 201 (add_scale_row c.args.scale (add_pool_row c.args.pool (with_moment now s)))) s
    (PutPool c.args.pool ∷ PutScale c.args.scale ∷ []) (λ refusal e. cc)
    c.accept_two.ensures.reply c.accept_two.ensures.changes
    (scaling_pool_added c.args.pool c.args.scale (with_moment now s) c.requires.new c.requires.named c.requires.fitting.pools_of_scales)
