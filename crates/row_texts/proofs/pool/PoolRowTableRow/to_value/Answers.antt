use Rattle.row_texts.proofs.ReadBack.{pool_back}
use Rattle.row_texts.proofs.pool.PoolRowTableRow.to_value.Goals as goal

pub returns-clause-back : goal.returns-clause-back
returns-clause-back c =
    pool_back
    c.args.self.now
    c.in_ok-field.ensures.back
    c.in_ok-field-2.ensures.back
    c.in_ok-field-3.ensures.back
    c.in_ok-field-4.ensures.back
    c.in_ok-field-5.ensures.back
    c.in_ok-field-6.ensures.back
    c.in_ok-option.ensures.back
    c.in_ok-field-7.ensures.back
    c.in_ok-field-8.ensures.back
    c.in_ok-field-9.ensures.back
    c.in_ok-field-10.ensures.back
    c.in_ok-field-11.ensures.back
    c.in_ok-field-12.ensures.back
    c.in_ok-option-2.ensures.back
    c.in_ok-array.ensures.back
