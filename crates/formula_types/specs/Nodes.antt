-- A node's type from that of its first operand, and an expression as its nodes from the whole down to the first operand that has none.
use Rattle.std.specs.Prelude.{ℕ, List, [], ◌∷◌, ◌++◌, Option, Some, None, Result, Ok}
use denote.Ref.{Bor}
use Rattle.bt_base.specs.Fails.{◌>>=◌}
use Rattle.formula_trees.specs.declared.tree.Expr.{Expr}
use Rattle.formula_trees.specs.Tree.{Tree, Member, Method, Unary, Binary, Ternary}
use Rattle.formula_trees.specs.View.{tree_of}
use Rattle.formula_trees.specs.declared.value_types.ExprType.{ExprType}
use Rattle.formula_trees.specs.Names.{member_named, method_named}
use Rattle.formula_trees.specs.Operators.{unary_type, binary_type, ternary_type}
use Rattle.formula_types.specs.Scopes as scopes
use Rattle.formula_types.specs.Scopes.{part}
use Rattle.formula_types.specs.Typing.{type_of, types_of, or_mismatch, member_at, method_at, is_metric}
use Rattle.formula_types.specs.declared.fault.TypeFault.{TypeFault}

-- the operand that is typed first
abbrev pub first_of : Tree → Option Tree
first_of (Member t p) = Some t
first_of (Method t p args) = Some t
first_of (Unary o p t) = Some t
first_of (Binary o p l r) = Some l
first_of (Ternary p c y n) = Some c
first_of _ = None

-- the type of a node whose first operand has this type, if it has one
abbrev pub node_type : List ℕ → scopes.Variables → Tree → ExprType → Result ExprType TypeFault
node_type text set (Member t p) first = member_at p (member_named (part text p)) first
node_type text set (Method t p args) first = types_of text set args >>= method_at p (method_named (part text p)) (is_metric text t)
node_type text set (Unary o p t) first = or_mismatch p (unary_type o first)
node_type text set (Binary o p l r) first = type_of text set r >>= (λ right. or_mismatch p (binary_type o first right))
node_type text set (Ternary p c y n) first = type_of text set y >>= (λ met. type_of text set n >>= (λ unmet. or_mismatch p (ternary_type first met unmet)))
node_type text set t first = type_of text set t

-- the type of the first of these nodes, each of which is the first operand of the one before it, from that of the last one's first operand
abbrev pub through : List ℕ → scopes.Variables → List (Bor Expr) → Result ExprType TypeFault → Result ExprType TypeFault
through text set [] innermost = innermost
through text set (e ∷ es) innermost = through text set es innermost >>= node_type text set (tree_of e.now)

-- the types of arguments, after those of others
abbrev pub types_after : List ℕ → scopes.Variables → List ExprType → List Expr → Result (List ExprType) TypeFault
types_after text set types [] = Ok types
types_after text set types (e ∷ es) = type_of text set (tree_of e) >>= (λ type. types_after text set (types ++ type ∷ []) es)
