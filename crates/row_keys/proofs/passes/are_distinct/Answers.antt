use Rattle.std.proofs.Common.{ℕ, List, true, Option, is_some, sym, ap, subst}
use Rattle.row_keys.specs.Numbers.{has_number}
use Rattle.row_keys.proofs.SeenKeys.{Splits, splits_first, splits_more}
use Rattle.row_keys.proofs.passes.are_distinct.Goals as goal

pub loop-row-init : goal.loop-row-init
loop-row-init g c =
    let key = g.K.RowKey.key in
    let seen = has_number c.new-seen.result in
    subst (λ rows. Splits key true seen rows c.args.rows) (sym c.into_iter-row-iterator.ensures.into_iter_gives)
    (splits_first key seen c.args.rows (λ text. ap (λ (o : Option ℕ). is_some o) (c.new-seen.ensures text)))

pub loop-row-preserved : goal.loop-row-preserved
loop-row-preserved g c =
    let key = g.K.RowKey.key in
    splits_more key (has_number c.loop-row.seen) (has_number c.see_key.new.seen) c.in-Some.row.now c.next.new.self c.args.rows
    c.loop-row.distinct c.in_ok-new.new
    c.in_ok-new.ensures.new c.in_ok-new.ensures.seen
    (subst (λ rows. Splits key c.loop-row.distinct (has_number c.loop-row.seen) rows c.args.rows) c.in-Some.ensures.steps c.loop-row.invariant)
