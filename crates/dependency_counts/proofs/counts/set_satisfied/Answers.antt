use Rattle.std.proofs.Common.{◌<◌, ◌∙◌, sym, ap, arith, length, set, cond}
use Rattle.std.proofs.lemmas.List.Edits.{map_over_more}
use Rattle.dependency_counts.specs.Counts.{Live, has_key}
use Rattle.dependency_counts.proofs.counts.set_satisfied.Goals as goal

pub loop-live-preserved : goal.loop-live-preserved
loop-live-preserved g c =
    let xs = c.deref_mut-live-items.result.now in
    let ys = c.loop-live.live-items in
    let i = c.loop-live.live-index in
    let inside : i < length xs = (let a = c.loop-live-test.true in omega arith) in
    let change = λ (live : Live). cond (has_key c.args.key live) (record live { satisfies = c.args.yes }) live in
    ap (set ys i) (c.set_in.ensures ∙ ap change (sym c.live-item.is))
    ∙ map_over_more change xs ys i c.live-item.result inside c.loop-live.invariant c.live-item.is
