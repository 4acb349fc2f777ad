use Rattle.std.proofs.Common.{◌∷◌, [], ◌++◌, ap, ◌∙◌}
use Rattle.row_texts.specs.declared.row.RowKind.TheVariants as kinds
use Rattle.keeper_store.specs.declared.edit.Edit.TheVariants as edits
use Rattle.store_keeper.proofs.OneEdit.{extends_drop_task}
use Rattle.store_keeper.proofs.edits.push_task_drop.Goals as goal

pub returns : goal.returns
returns c =
    let old = c.args.edits.now.items in
    extends_drop_task c.args.key.now old c.push.new.self.items c.known.ensures
    (c.in_ok-push.ensures.items ∙ ap (λ text. old ++ edits.Drop kinds.Task text ∷ []) c.in_ok-ids_key.ensures)
