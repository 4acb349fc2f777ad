use Rattle.std.proofs.Common.{◌≡◌, false, true, Some, None, Err, ap, ◌∙◌, sym, subst, rules}
use Rattle.std.specs.Option.{option_and_then}
use Rattle.std.proofs.lemmas.Result.{err_from_is_err_and}
use Rattle.batch_model.specs.Pools.{is_steady}
use Rattle.batch_model.specs.Scaling.{enable_autoscale, scale_of, too_soon}
use Rattle.machine_plans.specs.Plans.{IsAnswer, IsPlanOf, IsRefused, with_moment}
use Rattle.pool_scaling.specs.Rows.{IsGivenRow, given_row}
use Rattle.pool_scaling.proofs.Enabled.{accepted, lacking_by, refused_by}
use Rattle.pool_scaling.proofs.enabling.enable_found.Goals as goal

pub returns-in_err-check_given : goal.returns-in_err-check_given
returns-in_err-check_given c =
    let s = c.args.tables.now.state in
    let now = c.args.now in
    let spec = c.args.spec.now in
    let pool = c.args.pool.now in
    let not_deleted : pool.deleting ≡ false = search rules in
    let steady : is_steady pool.alloc ≡ true = search rules in
    let in_time : option_and_then (too_soon now) pool.enabled ≡ None = search rules in
    let p = err_from_is_err_and c.from_residual.result c.from_residual.ensures.1 in
    subst (IsAnswer now (enable_autoscale (with_moment now s) spec pool) s) (sym (p.1 ∙ ap Err p.2))
    (refused_by spec pool now s not_deleted steady in_time c.in_err-check_given.field-0.0 c.in_err-check_given.ensures)

pub returns-in_err-scale : goal.returns-in_err-scale
returns-in_err-scale c =
    let s = c.args.tables.now.state in
    let now = c.args.now in
    let spec = c.args.spec.now in
    let pool = c.args.pool.now in
    let not_deleted : pool.deleting ≡ false = search rules in
    let steady : is_steady pool.alloc ≡ true = search rules in
    let in_time : option_and_then (too_soon now) pool.enabled ≡ None = search rules in
    let p = err_from_is_err_and c.from_residual-in_err-scale.result c.from_residual-in_err-scale.ensures.1 in
    subst (IsAnswer now (enable_autoscale (with_moment now s) spec pool) s) (sym (p.1 ∙ ap Err p.2))
    (lacking_by spec pool now s not_deleted steady in_time c.in_err-scale.field-0.0
    (subst (λ old. IsGivenRow (given_row now spec pool.id old) (Err c.in_err-scale.field-0.0)) c.find_scale.ensures c.in_err-scale.ensures))

pub returns : goal.returns
returns c =
    let s = c.args.tables.now.state in
    let now = c.args.now in
    let spec = c.args.spec.now in
    let pool = c.args.pool.now in
    let not_deleted : pool.deleting ≡ false = search rules in
    let steady : is_steady pool.alloc ≡ true = search rules in
    let in_time : option_and_then (too_soon now) pool.enabled ≡ None = search rules in
    let given : given_row now spec pool.id (scale_of s pool.id) ≡ Some c.in_ok-scale.scale =
    subst (λ old. given_row now spec pool.id old ≡ Some c.in_ok-scale.scale) c.find_scale.ensures c.in_ok-scale.ensures
    in
    let answered = accepted spec pool (with_moment now s) not_deleted steady in_time c.in_ok-scale.scale c.in_ok-check_given.ensures given in
    let first = c.in_ok-put_enabled.ensures in (
      subst (λ answer. IsPlanOf answer s c.in_ok-put_enabled.field-0) (sym answered) first,
      λ refused. subst IsRefused first.reply refused,
    )
