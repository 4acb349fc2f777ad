use Rattle.std.proofs.Common.{sym, ap, ◌∙◌}
use Rattle.formula_trees.specs.Tree as tree
use Rattle.formula_syntax.specs.Parser.{applied}
use Rattle.formula_trees.specs.View.{tree_of, trees_of}
use Rattle.formula_syntax.specs.Frames.{callee_of}
use Rattle.formula_trees.proofs.Rows.{tree_of-Call, row_items}
use Rattle.formula_syntax.proofs.expression.apply.Goals as goal

pub returns-in-Free : goal.returns-in-Free
returns-in-Free c =
    tree_of-Call _ c.args.arguments ∙ ap (λ x. applied (callee_of x) (trees_of c.args.arguments.items)) (sym c.in-Free.is)

pub returns-in_ok-new-in-Of : goal.returns-in_ok-new-in-Of
returns-in_ok-new-in-Of c =
    ap (tree.Method (tree_of c.in_ok-new-in-Of.field-0.value) c.in-Of.span) (row_items c.in-Of.span c.args.arguments)
    ∙ ap (λ e. tree.Method (tree_of e) c.in-Of.span (trees_of c.args.arguments.items)) c.in_ok-new-in-Of.ensures.ok
    ∙ ap (λ x. applied (callee_of x) (trees_of c.args.arguments.items)) (sym c.in-Of.is)
