use Rattle.std.proofs.Common.{◌∷◌, [], ◌++◌, ap, ◌∙◌, append_assoc}
use Rattle.keeper_store.specs.declared.edit.Edit.TheVariants as edits
use Rattle.keeper_store.specs.declared.edit.MetaName.TheVariants as names
use Rattle.store_keeper.proofs.OneEdit.{extends_counters}
use Rattle.store_keeper.proofs.edits.push_counters.Goals as goal

pub returns : goal.returns
returns c =
    let old = c.args.edits.now.items in
    let node = edits.Meta names.NextNode c.args.node in
    let run = edits.Meta names.NextRun c.args.run in
    extends_counters c.args.node c.args.run old c.push-2.new.self.items
    (c.in_ok-push-2.ensures.items ∙ ap (λ items. items ++ run ∷ []) c.in_ok-push.ensures.items ∙ append_assoc old (node ∷ []) (run ∷ []))
