use Rattle.formula_trees.proofs.Rows.{tree_of-List}
use Rattle.formula_syntax.proofs.expression.list.Goals as goal

pub returns : goal.returns
returns c = tree_of-List c.args.span c.args.items
