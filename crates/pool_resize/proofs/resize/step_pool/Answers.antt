use Rattle.std.proofs.Common.{◌∷◌, [], refl}
use Rattle.bt_rows.specs.declared.tables.Change.TheVariants.{PutPool}
use Rattle.batch_model.specs.Rows.{is_pool, put_pool}
use Rattle.machine_plans.proofs.DuePlans.{of_step}
use Rattle.machine_plans.proofs.DuePuts.{pool_changed}
use Rattle.pool_resize.proofs.resize.step_pool.Goals as goal

pub returns : goal.returns
returns c =
    let s = c.args.tables.now.state in
    let pool = c.args.pool.now in
    of_step c.step_one.result c.args.due (PutPool c.args.row ∷ []) s (record { due = c.args.due; state = put_pool c.args.row s })
    c.step_one.ensures.reply c.step_one.ensures.changes refl
    (pool_changed (is_pool pool.id) pool c.args.row s c.requires.keys c.requires.there c.requires.same)
