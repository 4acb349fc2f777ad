use Rattle.std.proofs.Common.{ap, ◌∙◌}
use Rattle.formula_trees.specs.View.{trees_of}
use Rattle.formula_trees.proofs.Rows.{trees_of_push}
use Rattle.formula_syntax.proofs.expression.with_item.Goals as goal

pub returns : goal.returns
returns c = ap trees_of c.in_ok-push.ensures.items ∙ trees_of_push c.args.items.items c.args.item
