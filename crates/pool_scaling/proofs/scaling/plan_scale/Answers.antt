use Rattle.std.proofs.Common.{◌≡◌, [], ◌∷◌, refl, ◌∙◌, ap}
use Rattle.bt_rows.specs.declared.due.Due.TheVariants.{PoolScaled}
use Rattle.bt_rows.specs.declared.tables.Change.TheVariants.{PutPool, PutScale}
use Rattle.batch_model.specs.Scaling.{evaluated_now, pool_after, scaled_after}
use Rattle.machine_plans.proofs.DuePlans.{of_step}
use Rattle.pool_scaling.proofs.Scaled.{found_interval, scaled}
use Rattle.pool_scaling.proofs.scaling.plan_scale.Goals as goal

pub evaluated_now-requires-clause-moment : goal.evaluated_now-requires-clause-moment
evaluated_now-requires-clause-moment c = rw c.moment.ensures c.requires.rows.moment

pub evaluated_now-requires-clause-interval : goal.evaluated_now-requires-clause-interval
evaluated_now-requires-clause-interval c = found_interval c.args.tables.now.state c.args.pool.now.id c.args.scale.now c.requires.rows c.requires.scales

pub returns : goal.returns
returns c =
    let s = c.args.tables.now.state in
    let pool = c.args.pool.now in
    let scale = c.args.scale.now in
    let text = c.args.ran.now.text in
    let given = c.args.ran.now.given in
    let next : c.in_ok-next.next ≡ evaluated_now s.moment text scale =
    c.in_ok-next.ensures ∙ c.in_ok-evaluated_now.ensures ∙ ap (λ now. evaluated_now now text scale) c.moment.ensures
    in
    let row : c.in_ok-row.row ≡ pool_after s pool given = c.in_ok-row.ensures ∙ c.in_ok-pool_after.ensures in
    of_step c.step_two.result (PoolScaled c.in_ok-copy.field-0 c.in_ok-copy-2.field-0) (PutScale c.in_ok-next.next ∷ PutPool c.in_ok-row.row ∷ []) s (scaled_after s pool scale text given)
    c.step_two.ensures.reply c.step_two.ensures.changes (rw (c.in_ok-copy.ensures, c.in_ok-copy-2.ensures) refl)
    (rw (next, row) (scaled s pool scale text given c.requires.keys c.requires.there c.requires.scales))
