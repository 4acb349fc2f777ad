-- The types of expressions as rules, one for each kind of node.
use Rattle.std.specs.Prelude.{◌≡◌, ℕ, ℤ, true, List, [], ◌∷◌, ◌++◌, Some}
use Rattle.std.specs.List.{list_all}
use Rattle.formula_trees.specs.declared.token.Span.{Span}
use Rattle.formula_trees.specs.declared.token.BinaryOperator.{BinaryOperator}
use Rattle.formula_trees.specs.declared.tree.UnaryOperator.{UnaryOperator}
use Rattle.formula_trees.specs.Tree.{Tree, Numeral, Quoted, Variable, Call, Vector, Member, Method, Unary, Binary, Ternary, Trees, none, more}
use Rattle.formula_trees.specs.declared.names.Function.{Function}
use Rattle.formula_trees.specs.declared.names.Member.{Member as AMember}
use Rattle.formula_trees.specs.declared.names.Method.{Method as AMethod}
use Rattle.bt_base.specs.declared.pool_metric.Metric.{Metric}
use Rattle.formula_trees.specs.declared.value_types.ValueType.{ValueType}
use Rattle.formula_trees.specs.declared.value_types.ValueType.TheVariants.{Double, DoubleVec, Text, Timestamp}
use Rattle.formula_trees.specs.declared.value_types.ExprType.{ExprType}
use Rattle.formula_trees.specs.declared.value_types.ExprType.TheVariants.{Value}
use Rattle.formula_trees.specs.Names.{metric_named, function_named, method_named, member_named}
use Rattle.formula_trees.specs.Operators.{unary_type, binary_type, ternary_type}
use Rattle.formula_trees.specs.Signatures.{is_double, function_takes, function_result, method_takes, method_result}
use Rattle.formula_types.specs.Scopes as scopes
use Rattle.formula_types.specs.Scopes.{part, name_type}

mutual
  -- an expression of a text has this type, if these variables are set
  pub data HasType : List ℕ → scopes.Variables → Tree → ExprType → Type 0 where
    number : {text : List ℕ} {set : scopes.Variables} (n : ℤ) (p : Span) → HasType text set (Numeral n p) (Value Double)
    quoted : {text : List ℕ} {set : scopes.Variables} (p : Span) → HasType text set (Quoted p) (Value Text)
    name : {text : List ℕ} {set : scopes.Variables} (p : Span) (v : ValueType) → name_type set (part text p) ≡ Some v → HasType text set (Variable p) (Value v)
    call : {text : List ℕ} {set : scopes.Variables} {args : Trees} {types : List ExprType} (p : Span) (f : Function) → function_named (part text p) ≡ Some f →
        HaveTypes text set args types → function_takes f types ≡ true → HasType text set (Call p args) (function_result f)
    vector : {text : List ℕ} {set : scopes.Variables} {items : Trees} {types : List ExprType} (p : Span) → HaveTypes text set items types →
        list_all is_double types ≡ true → HasType text set (Vector p items) (Value DoubleVec)
    -- only timestamps have members
    member : {text : List ℕ} {set : scopes.Variables} {t : Tree} (p : Span) (m : AMember) → member_named (part text p) ≡ Some m →
        HasType text set t (Value Timestamp) → HasType text set (Member t p) (Value Double)
    -- only metrics have methods
    method : {text : List ℕ} {set : scopes.Variables} {args : Trees} {types : List ExprType} (q p : Span) (metric : Metric) (m : AMethod) →
        metric_named (part text q) ≡ Some metric → method_named (part text p) ≡ Some m → HaveTypes text set args types → method_takes m types ≡ true →
        HasType text set (Method (Variable q) p args) (method_result m)
    unary : {text : List ℕ} {set : scopes.Variables} {t : Tree} (o : UnaryOperator) (p : Span) (a b : ExprType) → HasType text set t a →
        unary_type o a ≡ Some b → HasType text set (Unary o p t) b
    binary : {text : List ℕ} {set : scopes.Variables} {l r : Tree} (o : BinaryOperator) (p : Span) (a b c : ExprType) → HasType text set l a →
        HasType text set r b → binary_type o a b ≡ Some c → HasType text set (Binary o p l r) c
    ternary : {text : List ℕ} {set : scopes.Variables} {c y n : Tree} (p : Span) (condition met unmet whole : ExprType) → HasType text set c condition →
        HasType text set y met → HasType text set n unmet → ternary_type condition met unmet ≡ Some whole → HasType text set (Ternary p c y n) whole

  -- arguments or items have these types
  pub data HaveTypes : List ℕ → scopes.Variables → Trees → List ExprType → Type 0 where
    no_types : {text : List ℕ} {set : scopes.Variables} → HaveTypes text set none []
    types : {text : List ℕ} {set : scopes.Variables} {front : Trees} {last : Tree} (before : List ExprType) (type : ExprType) →
        HaveTypes text set front before → HasType text set last type → HaveTypes text set (more front last) (before ++ type ∷ [])
