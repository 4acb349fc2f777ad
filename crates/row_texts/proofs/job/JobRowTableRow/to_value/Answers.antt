use Rattle.row_texts.proofs.ReadBack.{job_back}
use Rattle.row_texts.proofs.job.JobRowTableRow.to_value.Goals as goal

pub returns-clause-back : goal.returns-clause-back
returns-clause-back c =
    job_back
    c.args.self.now
    c.in_ok-field.ensures.back
    c.in_ok-field-2.ensures.back
    c.in_ok-field-3.ensures.back
    c.in_ok-field-4.ensures.back
    c.in_ok-field-5.ensures.back
    c.in_ok-field-6.ensures.back
    c.in_ok-option.ensures.back
    c.in_ok-field-7.ensures.back
    c.in_ok-field-8.ensures.back
    c.in_ok-field-9.ensures.back
    c.in_ok-option-2.ensures.back
    c.in_ok-option-3.ensures.back
    c.in_ok-field-10.ensures.back
    c.in_ok-array.ensures.back
