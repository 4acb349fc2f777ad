use Rattle.std.proofs.Common.{◌≡◌, ◌≤◌, ℕ, List, All}
use Rattle.formula_trees.specs.declared.tree.Expr.{size-Expr}
use Rattle.formula_trees.specs.View.{tree_of}
use Rattle.formula_metrics.specs.declared.metrics.Metrics.{Metrics}
use Rattle.formula_eval.specs.declared.outcome.Outcome.{Outcome}
use Rattle.formula_eval.specs.Evaluation.{value_of}
use Rattle.formula_eval.specs.Walks.{through}
use Rattle.formula_eval.proofs.spine.spine.Given as goal

abbrev pub invariant-down : goal.invariant-down
invariant-down l =
    ((text : List ℕ) (metrics : Metrics) (now : ℕ) (set : Outcome) →
    through text metrics now set l.nodes.items (value_of text metrics now set (tree_of l.inner)) ≡ value_of text metrics now set (tree_of l.expr))
    × (size-Expr l.inner ≤ size-Expr l.expr)
    × All (λ node. size-Expr node.now ≤ size-Expr l.expr) l.nodes.items
