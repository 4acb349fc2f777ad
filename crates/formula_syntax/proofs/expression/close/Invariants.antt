use Rattle.std.proofs.Common.{◌≡◌, length}
use Rattle.formula_syntax.specs.Parser.{close as closed}
use Rattle.formula_trees.specs.View.{tree_of}
use Rattle.formula_syntax.specs.Stacks.{stack_of}
use Rattle.formula_syntax.proofs.expression.close.Given as goal

abbrev pub invariant-closing : goal.invariant-closing
invariant-closing l = closed l.least (stack_of l.stack) (tree_of l.tree) ≡ closed l.least (stack_of l.fn.stack) (tree_of l.fn.operand)

abbrev pub decreases-closing : goal.decreases-closing
decreases-closing l = length (stack_of l.stack)
