-- The types by the rules are exactly those by the definition.
use Rattle.std.proofs.Common.{◌≡◌, ℕ, Bool, true, cond, List, [], ◌∷◌, ◌++◌, Some, Ok, Err, is_some, refl, ap, ◌∙◌, subst}
use Rattle.std.specs.List.{list_all}
use Rattle.bt_base.specs.Fails.{◌>>=◌}
use Rattle.formula_trees.specs.declared.token.Span.{Span}
use Rattle.formula_trees.specs.Tree.{Tree, Numeral, Quoted, Variable, Call, Vector, Member, Method, Unary, Binary, Ternary, Trees, none, more}
use Rattle.formula_trees.specs.declared.names.Method.{Method as AMethod}
use Rattle.bt_base.specs.declared.pool_metric.Metric.{Metric}
use Rattle.formula_trees.specs.declared.value_types.ValueType.TheVariants.{Double, DoubleVec, Timestamp}
use Rattle.formula_trees.specs.declared.value_types.ExprType.{ExprType}
use Rattle.formula_trees.specs.declared.value_types.ExprType.TheVariants.{Value}
use Rattle.formula_trees.specs.Names.{metric_named, function_named, method_named, member_named, fixed_type}
use Rattle.formula_trees.specs.Operators.{unary_type, binary_type, ternary_type}
use Rattle.formula_trees.specs.Signatures.{is_double, function_takes, function_result, method_takes, method_result}
use Rattle.formula_types.specs.declared.fault.TypeFault.TheVariants.{TypeMismatch, WrongArguments}
use Rattle.formula_types.specs.Scopes as scopes
use Rattle.formula_types.specs.Scopes.{part, name_type, or_else}
use Rattle.formula_types.specs.Typing.{type_of, types_of, or_mismatch, name_at, call_at, list_at, member_at, method_at, is_metric}
use Rattle.formula_types.specs.Rules as rules
use Rattle.formula_types.specs.Rules.{HasType, HaveTypes}
use Rattle.formula_types.proofs.Found.{ok_same, both, passed, matched, named, called, member_found, method_found, some_metric}
use Rattle.formula_types.proofs.Steps.{goes_on}

method_of : (text : List ℕ) (set : scopes.Variables) (t : Tree) (p : Span) (args : Trees) (m : AMethod) (types : List ExprType) → is_metric text t ≡ true →
    method_named (part text p) ≡ Some m → HaveTypes text set args types → method_takes m types ≡ true → HasType text set (Method t p args) (method_result m)
method_of text set (Variable q) p args m types is e h takes =
    let metric = some_metric (metric_named (part text q)) is in rules.method q p metric.0 m metric.1 e h takes
method_of text set (Numeral n q) p args m types is e h takes = cc
method_of text set (Quoted q) p args m types is e h takes = cc
method_of text set (Call q a) p args m types is e h takes = cc
method_of text set (Vector q a) p args m types is e h takes = cc
method_of text set (Member t q) p args m types is e h takes = cc
method_of text set (Method t q a) p args m types is e h takes = cc
method_of text set (Unary o q t) p args m types is e h takes = cc
method_of text set (Binary o q l r) p args m types is e h takes = cc
method_of text set (Ternary q c y n) p args m types is e h takes = cc

mutual
  -- a type by the definition is one by the rules
  pub by_rules : (text : List ℕ) (set : scopes.Variables) (t : Tree) (type : ExprType) → type_of text set t ≡ Ok type → HasType text set t type
  by_rules text set (Numeral n p) type e = subst (HasType text set (Numeral n p)) (ok_same _ type e) (rules.number n p)
  by_rules text set (Quoted p) type e = subst (HasType text set (Quoted p)) (ok_same _ type e) (rules.quoted p)
  by_rules text set (Variable p) type e =
      let h = named p (name_type set (part text p)) type e in
      subst (HasType text set (Variable p)) h.2 (rules.name p h.0 h.1)
  by_rules text set (Call p args) type e =
      let x = both (types_of text set args) (call_at p (function_named (part text p))) type e in
      let h = called p (function_named (part text p)) x.0 type x.2 in
      subst (HasType text set (Call p args)) h.3 (rules.call p h.0 h.1 (all_by_rules text set args x.0 x.1) h.2)
  by_rules text set (Vector p items) type e =
      let x = both (types_of text set items) (list_at p) type e in
      let h = passed (list_all is_double x.0) (Value DoubleVec) type _ x.2 in
      subst (HasType text set (Vector p items)) h.1 (rules.vector p (all_by_rules text set items x.0 x.1) h.0)
  by_rules text set (Member t p) type e =
      let x = both (type_of text set t) (member_at p (member_named (part text p))) type e in
      let h = member_found p (member_named (part text p)) x.0 type x.2 in
      subst (HasType text set (Member t p)) h.3 (rules.member p h.0 h.1 (by_rules text set t (Value Timestamp) (x.1 ∙ ap Ok h.2)))
  by_rules text set (Method t p args) type e =
      let x = both (type_of text set t) (λ operand. types_of text set args >>= method_at p (method_named (part text p)) (is_metric text t)) type e in
      let y = both (types_of text set args) (method_at p (method_named (part text p)) (is_metric text t)) type x.2 in
      let h = method_found p (method_named (part text p)) (is_metric text t) y.0 type y.2 in
      subst (HasType text set (Method t p args)) h.4 (method_of text set t p args h.0 y.0 h.2 h.1 (all_by_rules text set args y.0 y.1) h.3)
  by_rules text set (Unary o p t) type e =
      let x = both (type_of text set t) (λ operand. or_mismatch p (unary_type o operand)) type e in
      rules.unary o p x.0 type (by_rules text set t x.0 x.1) (matched p (unary_type o x.0) type x.2)
  by_rules text set (Binary o p l r) type e =
      let x = both (type_of text set l) (λ left. type_of text set r >>= (λ right. or_mismatch p (binary_type o left right))) type e in
      let y = both (type_of text set r) (λ right. or_mismatch p (binary_type o x.0 right)) type x.2 in
      rules.binary o p x.0 y.0 type (by_rules text set l x.0 x.1) (by_rules text set r y.0 y.1) (matched p (binary_type o x.0 y.0) type y.2)
  by_rules text set (Ternary p c y n) type e =
      let u = both (type_of text set c)
      (λ condition. type_of text set y >>= (λ first. type_of text set n >>= (λ second. or_mismatch p (ternary_type condition first second)))) type e in
      let v = both (type_of text set y) (λ first. type_of text set n >>= (λ second. or_mismatch p (ternary_type u.0 first second))) type u.2 in
      let w = both (type_of text set n) (λ second. or_mismatch p (ternary_type u.0 v.0 second)) type v.2 in
      rules.ternary p u.0 v.0 w.0 type (by_rules text set c u.0 u.1) (by_rules text set y v.0 v.1) (by_rules text set n w.0 w.1)
      (matched p (ternary_type u.0 v.0 w.0) type w.2)

  pub all_by_rules : (text : List ℕ) (set : scopes.Variables) (ts : Trees) (types : List ExprType) → types_of text set ts ≡ Ok types →
      HaveTypes text set ts types
  all_by_rules text set none types e = subst (HaveTypes text set none) (ok_same _ types e) rules.no_types
  all_by_rules text set (more front last) types e =
      let x = both (types_of text set front) (λ before. type_of text set last >>= (λ type. Ok (before ++ type ∷ []))) types e in
      let y = both (type_of text set last) (λ type. Ok (x.0 ++ type ∷ [])) types x.2 in
      subst (HaveTypes text set (more front last)) (ok_same _ types y.2)
      (rules.types x.0 y.0 (all_by_rules text set front x.0 x.1) (by_rules text set last y.0 y.1))

passes : {A : Type 0} (b : Bool) (x other : A) → b ≡ true → cond b x other ≡ x
passes b x other e = ap (λ c. cond c x other) e

-- a metric alone is a double
metric_fixed : (name : List ℕ) (m : Metric) → metric_named name ≡ Some m → fixed_type name ≡ Some Double
unfolding fixed_type
metric_fixed name m e = passes (is_some (metric_named name)) (Some Double) _ (ap is_some e)

metric_typed : (text : List ℕ) (set : scopes.Variables) (q : Span) (m : Metric) → metric_named (part text q) ≡ Some m →
    type_of text set (Variable q) ≡ Ok (Value Double)
metric_typed text set q m e = ap (λ o. name_at q (or_else o (set (part text q)))) (metric_fixed (part text q) m e)

mutual
  -- a type by the rules is the one by the definition
  pub by_definition : (text : List ℕ) (set : scopes.Variables) (t : Tree) (type : ExprType) → HasType text set t type → type_of text set t ≡ Ok type
  by_definition text set _ _ (rules.number n p) = refl
  by_definition text set _ _ (rules.quoted p) = refl
  by_definition text set _ _ (rules.name p v e) = ap (name_at p) e
  by_definition text set _ _ (rules.call {args = args} {types = types} p f e h takes) =
      goes_on _ _ types (all_by_definition text set args types h)
      ∙ ap (λ o. call_at p o types) e
      ∙ passes (function_takes f types) (Ok (function_result f)) (Err (WrongArguments p.from)) takes
  by_definition text set _ _ (rules.vector {items = items} {types = types} p h doubles) =
      goes_on _ _ types (all_by_definition text set items types h)
      ∙ passes (list_all is_double types) (Ok (Value DoubleVec)) (Err (TypeMismatch p.from)) doubles
  by_definition text set _ _ (rules.member {t = t} p m e h) =
      goes_on _ _ (Value Timestamp) (by_definition text set t (Value Timestamp) h) ∙ ap (λ o. member_at p o (Value Timestamp)) e
  by_definition text set _ _ (rules.method {args = args} {types = types} q p metric m is e h takes) =
      goes_on _ _ (Value Double) (metric_typed text set q metric is)
      ∙ goes_on _ _ types (all_by_definition text set args types h)
      ∙ ap (λ o. method_at p o (is_metric text (Variable q)) types) e
      ∙ ap (λ o. method_at p (Some m) (is_some o) types) is
      ∙ passes (method_takes m types) (Ok (method_result m)) (Err (WrongArguments p.from)) takes
  by_definition text set _ _ (rules.unary {t = t} o p a b h e) =
      goes_on _ _ a (by_definition text set t a h) ∙ ap (or_mismatch p) e
  by_definition text set _ _ (rules.binary {l = l} {r = r} o p a b c left right e) =
      goes_on _ _ a (by_definition text set l a left) ∙ goes_on _ _ b (by_definition text set r b right) ∙ ap (or_mismatch p) e
  by_definition text set _ _ (rules.ternary {c = c} {y = y} {n = n} p condition met unmet whole first second third e) =
      goes_on _ _ condition (by_definition text set c condition first)
      ∙ goes_on _ _ met (by_definition text set y met second)
      ∙ goes_on _ _ unmet (by_definition text set n unmet third)
      ∙ ap (or_mismatch p) e

  pub all_by_definition : (text : List ℕ) (set : scopes.Variables) (ts : Trees) (types : List ExprType) → HaveTypes text set ts types →
      types_of text set ts ≡ Ok types
  all_by_definition text set _ _ rules.no_types = refl
  all_by_definition text set _ _ (rules.types {front = front} {last = last} before type h g) =
      goes_on _ _ before (all_by_definition text set front before h) ∙ goes_on _ _ type (by_definition text set last type g)
