use Rattle.formula_syntax.proofs.Main as main
use Rattle.formula_syntax.proofs.Taken as taken
use Rattle.formula_syntax.proofs.formula.one_reading.Goals as goal

pub returns-clause-read : goal.returns-clause-read
returns-clause-read c = main.one_reading

pub returns-clause-taken : goal.returns-clause-taken
returns-clause-taken c = taken.taken
