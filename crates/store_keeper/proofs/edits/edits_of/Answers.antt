use Rattle.std.proofs.Common.{◌∷◌, [], ◌++◌, take, sym, ap, subst, ◌∙◌}
use Rattle.std.proofs.lemmas.List.{take_more}
use Rattle.store_keeper.specs.Edits.{AreEdits}
use Rattle.store_keeper.proofs.ManyEdits.{one_more}
use Rattle.store_keeper.proofs.edits.edits_of.Goals as goal

pub loop-change-preserved : goal.loop-change-preserved
loop-change-preserved c =
    let i = c.loop-change.change-index in
    let all = c.args.changes.now in
    let change = c.change-item.result in
    let new = c.push_edits.new.edits.items in
    let next = take_more all i change c.loop-change-test.true ∙ ap (λ one. take i all ++ one ∷ []) (sym c.change-item.is) in
    subst (λ changes. AreEdits changes new) (sym next)
    (one_more (take i all) change c.loop-change.edits.items new c.loop-change.invariant c.in_ok-push_edits.ensures)
