use Rattle.row_texts.proofs.ReadBack.{sample_back}
use Rattle.row_texts.proofs.sample.SampleRowTableRow.to_value.Goals as goal

pub returns-clause-back : goal.returns-clause-back
returns-clause-back c =
    sample_back
    c.args.self.now
    c.in_ok-field.ensures.back
    c.in_ok-field-2.ensures.back
    c.in_ok-field-3.ensures.back
    c.in_ok-array.ensures.back
