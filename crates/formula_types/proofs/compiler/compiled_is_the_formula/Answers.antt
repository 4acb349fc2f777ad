use Rattle.formula_types.proofs.Computes.{computes_formulas}
use Rattle.formula_types.proofs.compiler.compiled_is_the_formula.Goals as goal

pub returns : goal.returns
returns c = computes_formulas
