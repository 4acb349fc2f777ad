use Rattle.formula_types.proofs.OneAnswer as one
use Rattle.formula_types.proofs.compiler.one_answer.Goals as goal

pub returns-clause-formula_or_fault : goal.returns-clause-formula_or_fault
returns-clause-formula_or_fault c = one.formula_or_fault
