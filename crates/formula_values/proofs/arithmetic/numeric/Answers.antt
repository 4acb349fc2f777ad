use Rattle.formula_values.proofs.arithmetic.numeric.Goals as goal

pub returns-in-DoubleVec-Double : goal.returns-in-DoubleVec-Double
returns-in-DoubleVec-Double c =
    rw (c.in-DoubleVec-Double.is-0, c.in-DoubleVec-Double.is-1) (rw c.as_slice-in-DoubleVec-Double.ensures at c.items_with_double.ensures)
