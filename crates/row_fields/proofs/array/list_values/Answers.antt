use Rattle.std.proofs.Common.{◌≡◌, ◌+◌, get_or, drop, ◌∷◌, ap, ◌∙◌, rules}
use Rattle.std.proofs.lemmas.List.{at_drop_more, drop_all}
use Rattle.row_fields.proofs.ItemLists.{written_step, written_end, back_step}
use Rattle.row_fields.proofs.array.list_values.Goals as goal

pub loop-field-preserved : goal.loop-field-preserved
loop-field-preserved g c =
    let list = c.args.list.now in
    let i = c.loop-field.field-index in
    let x = c.field-item.result in
    let is : get_or list i x ≡ x = search rules in
    let left : drop i list ≡ x ∷ drop (i + 1) list =
    at_drop_more (λ ys. ys) list i x c.loop-field-test.true ∙ ap (λ y. y ∷ drop (i + 1) list) is
    in
    record {
      written =
          written_step g.T.Field.data_of g.T.Field.in_data _ _ x _ list (drop i list) left c.in_ok-array.ensures.written
          c.loop-field.invariant.written;
      back =
          back_step g.T.Field.data_of g.T.Field.in_data x _ list (drop i list) left c.in_ok-array.ensures.back
          c.loop-field.invariant.back;
    }

pub returns-clause-written : goal.returns-clause-written
returns-clause-written g c =
    written_end g.T.Field.data_of g.T.Field.in_data _ _ _ (drop_all _ _ c.loop-field-test.false) c.loop-field.invariant.written
