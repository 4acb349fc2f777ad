-- The type of an expression, or its first fault: inner before outer, left before right. A fault's place is where the part of the
-- text begins that is the node's token: an operator, a ternary's `?`, a list's `[`, or a name.
use Rattle.std.specs.Prelude.{ℕ, Bool, true, false, List, [], ◌∷◌, ◌++◌, Option, Some, None, Result, Ok, Err, is_some, if◌then◌else◌}
use Rattle.std.specs.List.{list_all}
use Rattle.bt_base.specs.Fails.{◌>>=◌}
use Rattle.formula_trees.specs.declared.token.Span.{Span}
use Rattle.formula_trees.specs.Tree.{Tree, Numeral, Quoted, Variable, Call, Vector, Member, Method, Unary, Binary, Ternary, Trees, none, more}
use Rattle.formula_trees.specs.Formula.{StatementTree, Sets, Drops}
use Rattle.formula_trees.specs.declared.names.Function.{Function}
use Rattle.formula_trees.specs.declared.names.Method.{Method as AMethod}
use Rattle.formula_trees.specs.declared.names.Member.{Member as AMember}
use Rattle.formula_trees.specs.declared.value_types.ValueType.{ValueType}
use Rattle.formula_trees.specs.declared.value_types.ValueType.TheVariants.{Double, DoubleVec, Text}
use Rattle.formula_trees.specs.declared.value_types.ExprType.{ExprType}
use Rattle.formula_trees.specs.declared.value_types.ExprType.TheVariants.{Value, Stop}
use Rattle.formula_trees.specs.Names.{metric_named, function_named, method_named, member_named, is_read_only}
use Rattle.formula_trees.specs.Operators.{unary_type, binary_type, ternary_type, common_type}
use Rattle.formula_trees.specs.Signatures.{is_double, is_timestamp, function_takes, function_result, method_takes, method_result}
use Rattle.formula_types.specs.Scopes as scopes
use Rattle.formula_types.specs.Scopes.{part, name_type, with_variable}
use Rattle.formula_types.specs.declared.fault.TypeFault.{TypeFault}
use Rattle.formula_types.specs.declared.fault.TypeFault.TheVariants.{UnknownName, TypeMismatch, ReadOnly, WrongArguments}

-- the type of an operator's result, unless its operands do not go together
abbrev pub or_mismatch : Span → Option ExprType → Result ExprType TypeFault
or_mismatch p None = Err (TypeMismatch p.from)
or_mismatch p (Some type) = Ok type

-- a name alone
abbrev pub name_at : Span → Option ValueType → Result ExprType TypeFault
name_at p None = Err (UnknownName p.from)
name_at p (Some value) = Ok (Value value)

-- a function of these arguments
abbrev pub call_at : Span → Option Function → List ExprType → Result ExprType TypeFault
call_at p None args = Err (UnknownName p.from)
call_at p (Some f) args = if function_takes f args then Ok (function_result f) else Err (WrongArguments p.from)

-- a list of doubles
abbrev pub list_at : Span → List ExprType → Result ExprType TypeFault
list_at p items = if list_all is_double items then Ok (Value DoubleVec) else Err (TypeMismatch p.from)

-- a member of a timestamp: a double
abbrev pub member_at : Span → Option AMember → ExprType → Result ExprType TypeFault
member_at p None operand = Err (UnknownName p.from)
member_at p (Some m) operand = if is_timestamp operand then Ok (Value Double) else Err (TypeMismatch p.from)

-- a method of a metric, with these arguments
abbrev pub method_at : Span → Option AMethod → Bool → List ExprType → Result ExprType TypeFault
method_at p None is_metric args = Err (UnknownName p.from)
method_at p (Some m) false args = Err (TypeMismatch p.from)
method_at p (Some m) true args = if method_takes m args then Ok (method_result m) else Err (WrongArguments p.from)

-- a metric alone, which is what methods are of
abbrev pub is_metric : List ℕ → Tree → Bool
is_metric text (Variable p) = is_some (metric_named (part text p))
is_metric text _ = false

abbrev mutual
  -- the type of an expression of a text, if these variables are set
  pub type_of : List ℕ → scopes.Variables → Tree → Result ExprType TypeFault
  type_of text set (Numeral n p) = Ok (Value Double)
  type_of text set (Quoted p) = Ok (Value Text)
  type_of text set (Variable p) = name_at p (name_type set (part text p))
  type_of text set (Call p args) = types_of text set args >>= call_at p (function_named (part text p))
  type_of text set (Vector p items) = types_of text set items >>= list_at p
  type_of text set (Member t p) = type_of text set t >>= member_at p (member_named (part text p))
  type_of text set (Method t p args) =
      type_of text set t >>= (λ operand. types_of text set args >>= method_at p (method_named (part text p)) (is_metric text t))
  type_of text set (Unary o p t) = type_of text set t >>= (λ operand. or_mismatch p (unary_type o operand))
  type_of text set (Binary o p l r) =
      type_of text set l >>= (λ left. type_of text set r >>= (λ right. or_mismatch p (binary_type o left right)))
  type_of text set (Ternary p c y n) =
      type_of text set c >>= (λ condition. type_of text set y >>=
      (λ first. type_of text set n >>= (λ second. or_mismatch p (ternary_type condition first second))))

  -- the types of arguments or items
  pub types_of : List ℕ → scopes.Variables → Trees → Result (List ExprType) TypeFault
  types_of text set none = Ok []
  types_of text set (more front last) =
      types_of text set front >>= (λ types. type_of text set last >>= (λ type. Ok (types ++ type ∷ [])))

-- the variables once a name has a value of this type, if it had a value of this type before or none
abbrev pub set_to : scopes.Variables → Span → List ℕ → Option ValueType → ExprType → Result scopes.Variables TypeFault
set_to set p name before Stop = Err (TypeMismatch p.from)
set_to set p name None (Value value) = Ok (with_variable set name value)
set_to set p name (Some before) (Value value) = if is_some (common_type before value) then Ok set else Err (TypeMismatch p.from)

-- the variables once a name is set, or why it cannot be
abbrev pub assigned : List ℕ → scopes.Variables → Span → ExprType → Result scopes.Variables TypeFault
assigned text set p type =
    if is_read_only (part text p) then Err (ReadOnly p.from)
    else set_to set p (part text p) (name_type set (part text p)) type

-- the variables after a statement. Any expression can be a statement.
abbrev pub statement_typed : List ℕ → scopes.Variables → StatementTree → Result scopes.Variables TypeFault
statement_typed text set (Sets p t) = type_of text set t >>= assigned text set p
statement_typed text set (Drops t) = type_of text set t >>= (λ dropped. Ok set)

-- the variables after statements, one after the other
abbrev pub typed : List ℕ → scopes.Variables → List StatementTree → Result scopes.Variables TypeFault
typed text set [] = Ok set
typed text set (s ∷ ss) = statement_typed text set s >>= (λ next. typed text next ss)
