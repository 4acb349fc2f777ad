use Rattle.row_texts.proofs.ReadBack.{prep_back}
use Rattle.row_texts.proofs.prep.PrepRowTableRow.to_value.Goals as goal

pub returns-clause-back : goal.returns-clause-back
returns-clause-back c =
    prep_back
    c.args.self.now
    c.in_ok-field.ensures.back
    c.in_ok-field-2.ensures.back
    c.in_ok-field-3.ensures.back
    c.in_ok-field-4.ensures.back
    c.in_ok-field-5.ensures.back
    c.in_ok-array.ensures.back
