use Rattle.std.proofs.Common.{arith}
use Rattle.std.proofs.lemmas.Grind.{common_steps}
use Rattle.formula_trees.specs.View.{statements_of}
use Rattle.formula_syntax.proofs.formula.take_lone.Goals as goal

pub returns-in_default : goal.returns-in_default
returns-in_default c = let h = c.advance.ensures (statements_of c.args.statements.now.items) in grind (arith, common_steps, h)
