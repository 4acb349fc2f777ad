use Rattle.row_texts.proofs.ReadBack.{scale_back}
use Rattle.row_texts.proofs.scale.ScaleRowTableRow.to_value.Goals as goal

pub returns-clause-back : goal.returns-clause-back
returns-clause-back c =
    scale_back
    c.args.self.now
    c.in_ok-field.ensures.back
    c.in_ok-field-2.ensures.back
    c.in_ok-field-3.ensures.back
    c.in_ok-field-4.ensures.back
    c.in_ok-array.ensures.back
