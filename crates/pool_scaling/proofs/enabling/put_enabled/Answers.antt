use Rattle.std.proofs.Common.{◌≡◌, [], ◌∷◌, ◌∙◌}
use Rattle.bt_rows.specs.declared.tables.Change.TheVariants.{PutPool, PutScale}
use Rattle.batch_model.specs.Answers.{accept}
use Rattle.batch_model.specs.Scaling.{autoscale_enabled, enabled_now}
use Rattle.machine_plans.specs.Plans.{with_moment}
use Rattle.machine_plans.proofs.Moves.{keys_moved, moved_plan}
use Rattle.pool_scaling.proofs.Enabled.{enabled}
use Rattle.pool_scaling.proofs.enabling.put_enabled.Goals as goal

pub returns : goal.returns
returns c =
    let s = c.args.tables.now.state in
    let now = c.args.now in
    let spec = c.args.spec.now in
    let pool = c.args.pool.now in
    let put : c.in_ok-scale.scale ≡ c.args.scale = c.in_ok-scale.ensures in
    let row : c.in_ok-row.row ≡ enabled_now now pool = c.in_ok-row.ensures ∙ c.in_ok-enabled_now.ensures in
    moved_plan c.accept_two.result now (accept 200 (autoscale_enabled (with_moment now s) spec pool)) s
    (PutScale c.in_ok-scale.scale ∷ PutPool c.in_ok-row.row ∷ []) (λ refusal e. cc)
    c.accept_two.ensures.reply c.accept_two.ensures.changes
    (rw (put, row) (enabled spec pool (with_moment now s) c.args.scale (keys_moved now s c.requires.keys) c.requires.there c.requires.given))
