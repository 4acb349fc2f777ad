-- The value of an expression, or what ends its evaluation: a stop, or the first fault. Operands are evaluated from the left. A fault's
-- place is the beginning of the node's token: an operator, or the name of a function, a method or a metric.
use Rattle.std.specs.Prelude.{ℕ, ◌-◌, true, false, List, [], ◌∷◌, ◌++◌, length, take, drop, Option, Some, None, Result, Ok, Err, if◌then◌else◌}
use Rattle.bt_base.specs.Fails.{◌>>=◌}
use Rattle.formula_trees.specs.declared.token.Span.{Span}
use Rattle.formula_trees.specs.declared.token.BinaryOperator.{BinaryOperator}
use Rattle.formula_trees.specs.declared.token.BinaryOperator.TheVariants.{Or, And}
use Rattle.formula_trees.specs.Tree.{Tree, Numeral, Quoted, Variable, Call, Vector, Member, Method, Unary, Binary, Ternary, Trees, none, more}
use Rattle.formula_trees.specs.declared.names.Function.{Function}
use Rattle.formula_trees.specs.declared.names.Function.TheVariants as functions
use Rattle.formula_trees.specs.declared.names.Member.{Member as AMember}
use Rattle.formula_trees.specs.declared.names.Method.{Method as AMethod}
use Rattle.bt_base.specs.declared.pool_metric.Metric.{Metric}
use Rattle.formula_trees.specs.Names.{metric_named, function_named, method_named, member_named}
use Rattle.formula_types.specs.Scopes.{part}
use Rattle.formula_values.specs.declared.fault.ValueFault.{ValueFault}
use Rattle.formula_values.specs.declared.value.Value.{Value}
use Rattle.formula_values.specs.declared.value.Value.TheVariants.{Double, DoubleVec, Text}
use Rattle.formula_values.specs.Values.{whole_value, truth, is_true, no_value}
use Rattle.formula_values.specs.Operators.{unary_value, binary_value}
use Rattle.formula_values.specs.Functions.{function_value, flattened}
use Rattle.formula_values.specs.Members.{member_value}
use Rattle.formula_metrics.specs.declared.metrics.Metrics.{Metrics}
use Rattle.formula_metrics.specs.Parts.{part_of}
use Rattle.formula_metrics.specs.Methods.{method_value}
use Rattle.formula_eval.specs.declared.fault.Interrupt.{Interrupt}
use Rattle.formula_eval.specs.declared.fault.Interrupt.TheVariants.{Stop, Fault}
use Rattle.formula_eval.specs.declared.outcome.Outcome.{Outcome}
use Rattle.formula_eval.specs.Outcomes.{text_in}
use Rattle.formula_eval.specs.Names.{name_value}

-- a fault, with the place of a token
abbrev pub fault_at : Span → ValueFault → Interrupt
fault_at p why = Fault (record { fault = why; place = p.from })

-- a result, whose fault is at a token
abbrev pub at : {X : Type 0} → Span → Result X ValueFault → Result X Interrupt
at p (Ok x) = Ok x
at p (Err why) = Err (fault_at p why)

-- a string without its two quotes
abbrev pub unquoted : List ℕ → List ℕ
unquoted bytes = take (length bytes - 2) (drop 1 bytes)

-- a string with its two quotes
abbrev pub string_value : List ℕ → Value
string_value bytes = Text (text_in (unquoted bytes))

-- a function of these arguments; `stop()` ends the evaluation
abbrev pub call_at : ℕ → Span → Option Function → List Value → Result Value Interrupt
call_at now p (Some functions.Stop) args = Err Stop
call_at now p (Some f) args = at p (function_value f args now)
call_at now p None args = at p no_value

-- a member of a value
abbrev pub member_at : Option AMember → Value → Value
member_at (Some m) operand = member_value m operand
member_at None operand = whole_value 0

-- the metric that a method is of
abbrev pub metric_of : List ℕ → Tree → Option Metric
metric_of text (Variable p) = metric_named (part text p)
metric_of text _ = None

-- a method of a metric, with these arguments
abbrev pub method_at : Metrics → ℕ → Span → Option Metric → Option AMethod → List Value → Result Value Interrupt
method_at metrics now p (Some metric) (Some m) args = at p (method_value (part_of metrics metric) m args now)
method_at metrics now p _ _ args = at p no_value

-- the result of `&&` or `||`, if the left side decides it alone
abbrev pub decided : BinaryOperator → Value → Option Value
decided And left = if is_true left then None else Some (truth false)
decided Or left = if is_true left then Some (truth true) else None
decided _ left = None

-- the result that is decided, or another
abbrev pub unless_decided : Option Value → Result Value Interrupt → Result Value Interrupt
unless_decided (Some known) other = Ok known
unless_decided None other = other

-- an operator evaluates its right side only if the left one does not decide
abbrev pub binary_at : BinaryOperator → Span → Value → Result Value Interrupt → Result Value Interrupt
binary_at o p left right = unless_decided (decided o left) (right >>= (λ known. at p (binary_value o left known)))

-- a ternary evaluates one of its branches
abbrev pub branch : Value → Result Value Interrupt → Result Value Interrupt → Result Value Interrupt
branch condition met unmet = if is_true condition then met else unmet

abbrev mutual
  -- the value of an expression of a text, if this is set
  pub value_of : List ℕ → Metrics → ℕ → Outcome → Tree → Result Value Interrupt
  value_of text metrics now set (Numeral n p) = Ok (Double n)
  value_of text metrics now set (Quoted p) = Ok (string_value (part text p))
  value_of text metrics now set (Variable p) = at p (name_value metrics set (part text p))
  value_of text metrics now set (Call p args) = values_of text metrics now set args >>= call_at now p (function_named (part text p))
  value_of text metrics now set (Vector p items) = values_of text metrics now set items >>= (λ values. Ok (DoubleVec (flattened values)))
  value_of text metrics now set (Member t p) = value_of text metrics now set t >>= (λ operand. Ok (member_at (member_named (part text p)) operand))
  value_of text metrics now set (Method t p args) =
      values_of text metrics now set args >>= method_at metrics now p (metric_of text t) (method_named (part text p))
  value_of text metrics now set (Unary o p t) = value_of text metrics now set t >>= (λ operand. at p (unary_value o operand))
  value_of text metrics now set (Binary o p l r) =
      value_of text metrics now set l >>= (λ left. binary_at o p left (value_of text metrics now set r))
  value_of text metrics now set (Ternary p c y n) =
      value_of text metrics now set c >>= (λ condition. branch condition (value_of text metrics now set y) (value_of text metrics now set n))

  -- the values of arguments or items
  pub values_of : List ℕ → Metrics → ℕ → Outcome → Trees → Result (List Value) Interrupt
  values_of text metrics now set none = Ok []
  values_of text metrics now set (more front last) =
      values_of text metrics now set front >>= (λ values. value_of text metrics now set last >>= (λ known. Ok (values ++ known ∷ [])))
