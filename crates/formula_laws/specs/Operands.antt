-- Operands and arguments that go together: an operator, a function, a method and a member take the values that they get, and a name
-- has a value.
use Rattle.std.specs.Prelude.{◌≡◌, ℕ, true, List, map, Some, None, Ok, IsSome}
use Rattle.std.specs.List.{list_all}
use Rattle.formula_trees.specs.Tree.{Tree, Numeral, Quoted, Variable, Call, Vector, Member, Method, Unary, Binary, Ternary, Trees, none, more}
use Rattle.formula_trees.specs.declared.names.Function.{Function}
use Rattle.formula_trees.specs.declared.names.Member.{Member as AMember}
use Rattle.formula_trees.specs.declared.names.Method.{Method as AMethod}
use Rattle.bt_base.specs.declared.pool_metric.Metric.{Metric}
use Rattle.formula_trees.specs.declared.value_types.ExprType.{ExprType}
use Rattle.formula_trees.specs.declared.value_types.ExprType.TheVariants as exprs
use Rattle.formula_trees.specs.declared.value_types.ValueType.{ValueType}
use Rattle.formula_trees.specs.declared.value_types.ValueType.TheVariants as types
use Rattle.formula_trees.specs.Names.{fixed_type, function_named, member_named, method_named}
use Rattle.formula_trees.specs.Operators as names
use Rattle.formula_trees.specs.Signatures.{is_double, function_takes, method_takes}
use Rattle.formula_types.specs.Scopes.{part}
use Rattle.formula_values.specs.declared.value.Value.{Value}
use Rattle.formula_metrics.specs.declared.metrics.Metrics.{Metrics}
use Rattle.formula_eval.specs.declared.outcome.Outcome.{Outcome}
use Rattle.formula_eval.specs.Evaluation.{value_of, values_of, metric_of}
use Rattle.formula_eval.specs.Outcomes.{value_among}
use Rattle.formula_laws.specs.ValueTypes.{type_of_value}

-- the types of values, as those of expressions
abbrev pub types_of_values : List Value → List ExprType
types_of_values values = map (λ known. exprs.Value (type_of_value known)) values

-- what the evaluation of an expression meets goes together, at its outermost node
abbrev pub GoTogether : List ℕ → Metrics → ℕ → Outcome → Tree → Type 0
GoTogether text metrics now set (Numeral n p) = Unit {0}
GoTogether text metrics now set (Quoted p) = Unit {0}
GoTogether text metrics now set (Variable p) = fixed_type (part text p) ≡ None → IsSome (value_among set.variables (part text p))
GoTogether text metrics now set (Call p args) =
    (values : List Value) → values_of text metrics now set args ≡ Ok values →
    (f : Function) × (function_named (part text p) ≡ Some f) × (function_takes f (types_of_values values) ≡ true)
GoTogether text metrics now set (Vector p items) =
    (values : List Value) → values_of text metrics now set items ≡ Ok values → list_all is_double (types_of_values values) ≡ true
GoTogether text metrics now set (Member t p) =
    (a : Value) → value_of text metrics now set t ≡ Ok a → (m : AMember) × (member_named (part text p) ≡ Some m) × (type_of_value a ≡ types.Timestamp)
GoTogether text metrics now set (Method t p args) =
    (values : List Value) → values_of text metrics now set args ≡ Ok values →
    (metric : Metric) × (metric_of text t ≡ Some metric) × (m : AMethod) × (method_named (part text p) ≡ Some m)
    × (method_takes m (types_of_values values) ≡ true)
GoTogether text metrics now set (Unary o p t) =
    (a : Value) → value_of text metrics now set t ≡ Ok a → IsSome (names.unary_value o (type_of_value a))
-- what the left side decides alone is decided by an operand that goes together with some other
GoTogether text metrics now set (Binary o p l r) =
    (a : Value) → value_of text metrics now set l ≡ Ok a →
    (b : ValueType) × IsSome (names.binary_value o (type_of_value a) b)
    × ((known : Value) → value_of text metrics now set r ≡ Ok known → type_of_value known ≡ b)
GoTogether text metrics now set (Ternary p c y n) =
    (a : Value) → value_of text metrics now set c ≡ Ok a → type_of_value a ≡ types.Double

abbrev mutual
  -- the same of an expression and of all its parts
  pub AllGoTogether : List ℕ → Metrics → ℕ → Outcome → Tree → Type 0
  AllGoTogether text metrics now set (Numeral n p) = Unit {0}
  AllGoTogether text metrics now set (Quoted p) = Unit {0}
  AllGoTogether text metrics now set (Variable p) = GoTogether text metrics now set (Variable p)
  AllGoTogether text metrics now set (Call p args) = GoTogether text metrics now set (Call p args) × EachGoTogether text metrics now set args
  AllGoTogether text metrics now set (Vector p items) = GoTogether text metrics now set (Vector p items) × EachGoTogether text metrics now set items
  AllGoTogether text metrics now set (Member t p) = GoTogether text metrics now set (Member t p) × AllGoTogether text metrics now set t
  AllGoTogether text metrics now set (Method t p args) = GoTogether text metrics now set (Method t p args) × EachGoTogether text metrics now set args
  AllGoTogether text metrics now set (Unary o p t) = GoTogether text metrics now set (Unary o p t) × AllGoTogether text metrics now set t
  AllGoTogether text metrics now set (Binary o p l r) =
      GoTogether text metrics now set (Binary o p l r) × AllGoTogether text metrics now set l × AllGoTogether text metrics now set r
  AllGoTogether text metrics now set (Ternary p c y n) =
      GoTogether text metrics now set (Ternary p c y n) × AllGoTogether text metrics now set c × AllGoTogether text metrics now set y
      × AllGoTogether text metrics now set n

  pub EachGoTogether : List ℕ → Metrics → ℕ → Outcome → Trees → Type 0
  EachGoTogether text metrics now set none = Unit {0}
  EachGoTogether text metrics now set (more front last) = EachGoTogether text metrics now set front × AllGoTogether text metrics now set last
