-- A node's value from that of its first operand, an expression as its nodes from the whole down to the first operand that has
-- none, and one statement before others.
use Rattle.std.specs.Prelude.{◌≡◌, ℕ, Bool, true, false, List, [], ◌∷◌, ◌++◌, Option, Some, None, Result, Ok, Err}
use denote.Ref.{Bor}
use Rattle.bt_base.specs.Fails.{◌>>=◌}
use Rattle.bt_base.specs.declared.fail.Fail.{Fail}
use Rattle.bt_base.specs.declared.fail.Fail.TheVariants.{Memory, Why}
use Rattle.formula_trees.specs.declared.tree.Expr.{Expr}
use Rattle.formula_trees.specs.declared.token.Span.{Span}
use Rattle.formula_trees.specs.declared.token.BinaryOperator.{BinaryOperator}
use Rattle.formula_trees.specs.Tree.{Tree, Trees, Member, Unary, Binary, Ternary}
use Rattle.formula_trees.specs.Formula.{StatementTree}
use Rattle.formula_trees.specs.View.{tree_of}
use Rattle.bt_base.specs.declared.pool_metric.Metric.{Metric}
use Rattle.formula_trees.specs.Names.{function_named, member_named, method_named}
use Rattle.formula_types.specs.Scopes.{part}
use Rattle.formula_values.specs.declared.value.Value.{Value}
use Rattle.formula_values.specs.declared.value.Value.TheVariants.{DoubleVec}
use Rattle.formula_values.specs.Operators.{unary_value, binary_value}
use Rattle.formula_values.specs.Functions.{flattened}
use Rattle.formula_metrics.specs.declared.metrics.Metrics.{Metrics}
use Rattle.formula_eval.specs.declared.fault.EvalFault.{EvalFault}
use Rattle.formula_eval.specs.declared.fault.Interrupt.{Interrupt}
use Rattle.formula_eval.specs.declared.outcome.Outcome.{Outcome}
use Rattle.formula_eval.specs.Evaluation.{at, call_at, member_at, method_at, binary_at, branch, value_of, values_of}
use Rattle.formula_eval.specs.Statements.{statements_done}

-- the operand that is evaluated first
abbrev pub first_of : Tree → Option Tree
first_of (Member t p) = Some t
first_of (Unary o p t) = Some t
first_of (Binary o p l r) = Some l
first_of (Ternary p c y n) = Some c
first_of _ = None

-- the result of a function of these arguments
abbrev pub call_value : List ℕ → Metrics → ℕ → Outcome → Span → Trees → Result Value Interrupt
call_value text metrics now set p args = values_of text metrics now set args >>= call_at now p (function_named (part text p))

-- a vector of these items
abbrev pub list_value : List ℕ → Metrics → ℕ → Outcome → Trees → Result Value Interrupt
list_value text metrics now set items = values_of text metrics now set items >>= (λ values. Ok (DoubleVec (flattened values)))

-- the result of a method of a metric with these arguments
abbrev pub method_value : List ℕ → Metrics → ℕ → Outcome → Span → Option Metric → Trees → Result Value Interrupt
method_value text metrics now set p metric args =
    values_of text metrics now set args >>= method_at metrics now p metric (method_named (part text p))

-- the result of a binary operator whose left side does not decide it
abbrev pub right_value : List ℕ → Metrics → ℕ → Outcome → BinaryOperator → Span → Value → Tree → Result Value Interrupt
right_value text metrics now set o p left r = value_of text metrics now set r >>= (λ known. at p (binary_value o left known))

-- the value of a node whose first operand has this value, if it has one
abbrev pub node_value : List ℕ → Metrics → ℕ → Outcome → Tree → Value → Result Value Interrupt
node_value text metrics now set (Member t p) first = Ok (member_at (member_named (part text p)) first)
node_value text metrics now set (Unary o p t) first = at p (unary_value o first)
node_value text metrics now set (Binary o p l r) first = binary_at o p first (value_of text metrics now set r)
node_value text metrics now set (Ternary p c y n) first = branch first (value_of text metrics now set y) (value_of text metrics now set n)
node_value text metrics now set t first = value_of text metrics now set t

-- the value of the first of these nodes, each of which is the first operand of the one before it, from that of the last one's
-- first operand
abbrev pub through : List ℕ → Metrics → ℕ → Outcome → List (Bor Expr) → Result Value Interrupt → Result Value Interrupt
through text metrics now set [] innermost = innermost
through text metrics now set (e ∷ es) innermost = through text metrics now set es innermost >>= node_value text metrics now set (tree_of e.now)

-- the values of arguments, after those of others
abbrev pub values_after : List ℕ → Metrics → ℕ → Outcome → List Value → List Expr → Result (List Value) Interrupt
values_after text metrics now set values [] = Ok values
values_after text metrics now set values (e ∷ es) =
    value_of text metrics now set (tree_of e) >>= (λ known. values_after text metrics now set (values ++ known ∷ []) es)

-- one statement is done: whatever statements follow it, what all set is what those set after it, or what is set if it stops, or its
-- fault, unless memory ran out
abbrev pub IsDone : List ℕ → Metrics → ℕ → Outcome → StatementTree → Outcome → Result Bool (Fail EvalFault) → Type 0
IsDone text metrics now old s new (Ok true) = (ss : List StatementTree) →
    statements_done text metrics now old (s ∷ ss) ≡ statements_done text metrics now new ss
IsDone text metrics now old s new (Ok false) = (ss : List StatementTree) → statements_done text metrics now old (s ∷ ss) ≡ Ok new
IsDone text metrics now old s new (Err Memory) = Unit {0}
IsDone text metrics now old s new (Err (Why fault)) = (ss : List StatementTree) → statements_done text metrics now old (s ∷ ss) ≡ Err fault
