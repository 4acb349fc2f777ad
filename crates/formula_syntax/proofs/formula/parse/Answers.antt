use Rattle.std.proofs.Common.{length}
use Rattle.formula_trees.specs.View.{statements_of}
use Rattle.formula_syntax.proofs.Faults.{fault_by, none_by}
use Rattle.formula_syntax.proofs.Main.{the_formula}
use Rattle.formula_syntax.proofs.formula.parse.Goals as goal

pub returns-in-Ok-clause-none : goal.returns-in-Ok-clause-none
returns-in-Ok-clause-none c = none_by (statements_of c.read.new.statements.items) c.args.tokens.now (length c.args.text.now) c.in-Ok.ensures

pub returns-in-Ok-clause-reads : goal.returns-in-Ok-clause-reads
returns-in-Ok-clause-reads c =
    the_formula c.args.tokens.now (length c.args.text.now) (statements_of c.read.new.statements.items) c.in-Ok.ensures

pub returns-in-Err-clause-fault : goal.returns-in-Err-clause-fault
returns-in-Err-clause-fault c =
    λ f e. fault_by c.in-Err.error c.read.new.statements.items c.args.tokens.now (length c.args.text.now) c.in-Err.ensures f (cc)
