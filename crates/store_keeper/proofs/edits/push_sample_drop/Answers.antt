use Rattle.std.proofs.Common.{◌∷◌, [], ◌++◌, ap, ◌∙◌, arith}
use Rattle.row_texts.specs.declared.row.RowKind.TheVariants as kinds
use Rattle.keeper_store.specs.declared.edit.Edit.TheVariants as edits
use Rattle.store_keeper.proofs.OneEdit.{extends_drop_sample}
use Rattle.store_keeper.proofs.edits.push_sample_drop.Goals as goal

pub returns : goal.returns
returns c =
    let old = c.args.edits.now.items in
    extends_drop_sample c.args.key.now old c.push.new.self.items (c.known.ensures, omega arith)
    (c.in_ok-push.ensures.items ∙ ap (λ text. old ++ edits.Drop kinds.Sample text ∷ []) c.in_ok-label_key.ensures)
