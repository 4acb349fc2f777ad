use Rattle.formula_values.proofs.operators.negated.Goals as goal

pub returns-in-DoubleVec : goal.returns-in-DoubleVec
returns-in-DoubleVec c = rw c.in-DoubleVec.is (rw (c.zero-in-DoubleVec.ensures, c.as_slice.ensures) at c.double_with_items.ensures)
