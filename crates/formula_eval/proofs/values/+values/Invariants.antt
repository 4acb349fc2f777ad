use Rattle.std.proofs.Common.{◌≡◌, ◌≤◌, ◌+◌, ◌*◌, [], Ok, All, drop, length}
use Rattle.formula_trees.specs.declared.tree.Expr.{size-Expr}
use Rattle.formula_trees.specs.View.{tree_of}
use Rattle.formula_eval.specs.Evaluation.{value_of}
use Rattle.formula_eval.specs.Walks.{through, values_after}
use Rattle.formula_eval.proofs.values.+values.Given as goal

abbrev pub invariant-value_of-up : goal.invariant-value_of-up
invariant-value_of-up l =
    (through l.context.text.now l.context.metrics.now l.context.now l.context.set.now l.nodes.items (Ok l.found)
    ≡ value_of l.context.text.now l.context.metrics.now l.context.now l.context.set.now (tree_of l.expr))
    × All (λ node. size-Expr node.now ≤ size-Expr l.expr) l.nodes.items

abbrev pub decreases-value_of-up : goal.decreases-value_of-up
decreases-value_of-up l = length l.nodes.items

abbrev pub invariant-values_of-loop-item : goal.invariant-values_of-loop-item
invariant-values_of-loop-item l =
    values_after l.context.text.now l.context.metrics.now l.context.now l.context.set.now l.values.items (drop l.item-index l.items)
    ≡ values_after l.context.text.now l.context.metrics.now l.context.now l.context.set.now [] l.items

-- a node's right operands and arguments are smaller than it, and the nodes of an expression are at most as large
abbrev pub decreases-value_of : goal.decreases-value_of
decreases-value_of l = 4 * size-Expr l.expr.now + 1

abbrev pub decreases-node_value : goal.decreases-node_value
decreases-node_value l = 4 * size-Expr l.node.now

abbrev pub decreases-right_value : goal.decreases-right_value
decreases-right_value l = 4 * size-Expr l.right.now + 2

abbrev pub decreases-values_of : goal.decreases-values_of
decreases-values_of l = 4 * goal.size-values_of l + 2

abbrev pub decreases-call_value : goal.decreases-call_value
decreases-call_value l = 4 * goal.size-call_value l + 3

abbrev pub decreases-list_value : goal.decreases-list_value
decreases-list_value l = 4 * goal.size-list_value l + 3

abbrev pub decreases-method_value : goal.decreases-method_value
decreases-method_value l = 4 * goal.size-method_value l + 3
