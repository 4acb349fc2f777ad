use Rattle.std.proofs.Common.{◌≡◌, ◌≤◌, ◌+◌, ◌*◌, [], Ok, All, drop, length}
use Rattle.formula_trees.specs.declared.tree.Expr.{size-Expr}
use Rattle.formula_trees.specs.View.{tree_of}
use Rattle.formula_types.specs.Typing.{type_of}
use Rattle.formula_types.specs.Nodes.{through, types_after}
use Rattle.formula_types.specs.View.{types_in}
use Rattle.formula_types.proofs.typing.+typing.Given as goal

abbrev pub invariant-type_of-up : goal.invariant-type_of-up
invariant-type_of-up l =
    (through l.text (types_in l.scope) l.nodes.items (Ok l.found) ≡ type_of l.text (types_in l.scope) (tree_of l.expr))
    × All (λ node. size-Expr node.now ≤ size-Expr l.expr) l.nodes.items

abbrev pub decreases-type_of-up : goal.decreases-type_of-up
decreases-type_of-up l = length l.nodes.items

abbrev pub invariant-types_of-loop-item : goal.invariant-types_of-loop-item
invariant-types_of-loop-item l =
    types_after l.text (types_in l.scope) l.types.items (drop l.item-index l.items) ≡ types_after l.text (types_in l.scope) [] l.items

-- a node's right operands are smaller than it, and the nodes of an expression are at most as large
abbrev pub decreases-type_of : goal.decreases-type_of
decreases-type_of l = 3 * size-Expr l.expr.now + 1

abbrev pub decreases-node_type : goal.decreases-node_type
decreases-node_type l = 3 * size-Expr l.node.now

abbrev pub decreases-types_of : goal.decreases-types_of
decreases-types_of l = 3 * goal.size-types_of l + 2
