use Rattle.std.proofs.Common.{◌≡◌, ◌≤◌, ℕ, List, All}
use Rattle.formula_trees.specs.declared.tree.Expr.{size-Expr}
use Rattle.formula_trees.specs.View.{tree_of}
use Rattle.formula_types.specs.Scopes.{Variables}
use Rattle.formula_types.specs.Typing.{type_of}
use Rattle.formula_types.specs.Nodes.{through}
use Rattle.formula_types.proofs.typing.spine.Given as goal

abbrev pub invariant-down : goal.invariant-down
invariant-down l =
    ((text : List ℕ) (set : Variables) → through text set l.nodes.items (type_of text set (tree_of l.inner)) ≡ type_of text set (tree_of l.expr))
    × (size-Expr l.inner ≤ size-Expr l.expr)
    × All (λ node. size-Expr node.now ≤ size-Expr l.expr) l.nodes.items
