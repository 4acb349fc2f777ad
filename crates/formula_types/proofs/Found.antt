-- The parts of a step whose result is a value or a type.
use Rattle.std.proofs.Common.{◌≡◌, Bool, true, false, cond, List, Option, Some, None, Result, Ok, Err, is_some, refl, ap}
use Rattle.bt_base.specs.Fails.{◌>>=◌}
use Rattle.formula_trees.specs.declared.token.Span.{Span}
use Rattle.formula_trees.specs.declared.names.Function.{Function}
use Rattle.formula_trees.specs.declared.names.Member.{Member as AMember}
use Rattle.formula_trees.specs.declared.names.Method.{Method as AMethod}
use Rattle.bt_base.specs.declared.pool_metric.Metric.{Metric}
use Rattle.formula_trees.specs.declared.value_types.ValueType.{ValueType}
use Rattle.formula_trees.specs.declared.value_types.ValueType.TheVariants.{Double, DoubleVec, Text, Timestamp, TimeInterval}
use Rattle.formula_trees.specs.declared.value_types.ExprType.{ExprType}
use Rattle.formula_trees.specs.declared.value_types.ExprType.TheVariants.{Value, Stop}
use Rattle.formula_trees.specs.Signatures.{is_timestamp, function_takes, function_result, method_takes, method_result}
use Rattle.formula_types.specs.Typing.{or_mismatch, name_at, call_at, member_at, method_at}

abbrev value_or : {A E : Type 0} → A → Result A E → A
value_or d (Ok x) = x
value_or d (Err e) = d

pub ok_same : {A E : Type 0} (x y : A) → ◌≡◌ {A = Result A E} (Ok x) (Ok y) → x ≡ y
ok_same x y e = ap (value_or x) e

pub err_ok : {A E : Type 0} (e : E) (x : A) → ◌≡◌ {A = Result A E} (Err e) (Ok x) → ⊥
err_ok e x h = cc

pub both : {A B E : Type 0} (r : Result A E) (go : A → Result B E) (y : B) → (r >>= go) ≡ Ok y → (x : A) × (r ≡ Ok x) × (go x ≡ Ok y)
both (Ok x) go y e = (x, refl, e)
both (Err f) go y e = absurd (err_ok f y e)

pub passed : {A E : Type 0} (b : Bool) (x y : A) (f : E) → cond {A = Result A E} b (Ok x) (Err f) ≡ Ok y → (b ≡ true) × (x ≡ y)
passed true x y f e = (refl, ok_same x y e)
passed false x y f e = absurd (err_ok f y e)

pub matched : (p : Span) (o : Option ExprType) (t : ExprType) → or_mismatch p o ≡ Ok t → o ≡ Some t
matched p None t e = absurd (err_ok _ _ e)
matched p (Some s) t e = ap Some (ok_same s t e)

pub named : (p : Span) (o : Option ValueType) (t : ExprType) → name_at p o ≡ Ok t → (v : ValueType) × (o ≡ Some v) × (Value v ≡ t)
named p None t e = absurd (err_ok _ _ e)
named p (Some v) t e = (v, refl, ok_same (Value v) t e)

pub called : (p : Span) (o : Option Function) (types : List ExprType) (t : ExprType) → call_at p o types ≡ Ok t →
    (f : Function) × (o ≡ Some f) × (function_takes f types ≡ true) × (function_result f ≡ t)
called p None types t e = absurd (err_ok _ _ e)
called p (Some f) types t e = let h = passed (function_takes f types) (function_result f) t _ e in (f, refl, h.0, h.1)

pub is_time : (a : ExprType) → is_timestamp a ≡ true → a ≡ Value Timestamp
is_time (Value Double) e = cc
is_time (Value DoubleVec) e = cc
is_time (Value Text) e = cc
is_time (Value Timestamp) e = refl
is_time (Value TimeInterval) e = cc
is_time Stop e = cc

pub member_found : (p : Span) (o : Option AMember) (a t : ExprType) → member_at p o a ≡ Ok t →
    (m : AMember) × (o ≡ Some m) × (a ≡ Value Timestamp) × (Value Double ≡ t)
member_found p None a t e = absurd (err_ok _ _ e)
member_found p (Some m) a t e = let h = passed (is_timestamp a) (Value Double) t _ e in (m, refl, is_time a h.0, h.1)

pub method_found : (p : Span) (o : Option AMethod) (b : Bool) (types : List ExprType) (t : ExprType) → method_at p o b types ≡ Ok t →
    (m : AMethod) × (o ≡ Some m) × (b ≡ true) × (method_takes m types ≡ true) × (method_result m ≡ t)
method_found p None b types t e = absurd (err_ok _ _ e)
method_found p (Some m) false types t e = absurd (err_ok _ _ e)
method_found p (Some m) true types t e = let h = passed (method_takes m types) (method_result m) t _ e in (m, refl, refl, h.0, h.1)

pub some_metric : (o : Option Metric) → is_some o ≡ true → (m : Metric) × (o ≡ Some m)
some_metric None e = cc
some_metric (Some m) e = (m, refl)
