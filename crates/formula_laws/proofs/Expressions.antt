-- An expression's value has the expression's type.
use Rattle.std.proofs.Common.{◌≡◌, ℕ, Bool, true, false, cond, List, [], ◌∷◌, ◌++◌, map, Option, Some, None, Result, Ok, refl, sym, ap, ◌∙◌}
use Rattle.std.specs.List.{list_all}
use Rattle.bt_base.specs.Fails.{◌>>=◌}
use Rattle.formula_trees.specs.declared.token.Span.{Span}
use Rattle.formula_trees.specs.declared.token.BinaryOperator.{BinaryOperator}
use Rattle.formula_trees.specs.Tree.{Tree, Numeral, Quoted, Variable, Call, Vector, Member, Method, Unary, Binary, Ternary, Trees, none, more}
use Rattle.bt_base.specs.declared.pool_metric.Metric.{Metric}
use Rattle.formula_trees.specs.declared.value_types.ValueType.{ValueType}
use Rattle.formula_trees.specs.declared.value_types.ValueType.TheVariants as types
use Rattle.formula_trees.specs.declared.value_types.ExprType.{ExprType}
use Rattle.formula_trees.specs.declared.value_types.ExprType.TheVariants.{Value as V, Stop}
use Rattle.formula_trees.specs.Names.{metric_named, function_named, method_named, member_named}
use Rattle.formula_trees.specs.Operators as names
use Rattle.formula_trees.specs.Operators.{valued, unary_type, binary_type, ternary_type, branch_type, common_type}
use Rattle.formula_trees.specs.Signatures.{is_double, function_takes, method_takes}
use Rattle.formula_types.specs.Scopes.{Variables, part, name_type}
use Rattle.formula_types.specs.Typing as typing
use Rattle.formula_types.specs.Typing.{type_of, types_of, or_mismatch, name_at, list_at, is_metric}
use Rattle.formula_values.specs.declared.value.Value.{Value}
use Rattle.formula_values.specs.declared.value.Value.TheVariants.{Double, DoubleVec}
use Rattle.formula_values.specs.Values.{is_true}
use Rattle.formula_values.specs.Functions.{flattened}
use Rattle.formula_values.specs.Operators as values
use Rattle.formula_metrics.specs.declared.metrics.Metrics.{Metrics}
use Rattle.formula_metrics.specs.Methods.{method_value}
use Rattle.formula_metrics.specs.Parts.{part_of}
use Rattle.formula_eval.specs.declared.fault.Interrupt.{Interrupt}
use Rattle.formula_eval.specs.declared.outcome.Outcome.{Outcome}
use Rattle.formula_eval.specs.Names.{name_value}
use Rattle.formula_eval.specs.Evaluation.{at, value_of, values_of, call_at, member_at, method_at, metric_of, string_value, decided, unless_decided, binary_at}
use Rattle.formula_eval.specs.Evaluation.{branch}
use Rattle.formula_laws.specs.ValueTypes.{type_of_value, Agree}
use Rattle.formula_types.proofs.Found.{ok_same, both, passed, matched, named, called, member_found, method_found, some_metric}
use Rattle.formula_laws.proofs.Agreement.{name_kept}
use Rattle.formula_laws.proofs.Operations.{unary_kept, binary_kept, decided_kept, common_same}
use Rattle.formula_laws.proofs.Calls.{at_gave, call_kept, member_kept}
use Rattle.formula_laws.proofs.Methods.{method_kept}

-- the parts of a step whose result is a value

pub found_value : (o : Option ValueType) (t : ExprType) → valued o ≡ Some t → (c : ValueType) × (o ≡ Some c) × (V c ≡ t)
found_value None t e = cc
found_value (Some c) t e = (c, refl, cc)

-- what has methods is a metric
pub metric_found : (text : List ℕ) (t : Tree) → is_metric text t ≡ true → (m : Metric) × (metric_of text t ≡ Some m)
metric_found text (Variable q) e = some_metric (metric_named (part text q)) e
metric_found text (Numeral n q) e = cc
metric_found text (Quoted q) e = cc
metric_found text (Call q a) e = cc
metric_found text (Vector q a) e = cc
metric_found text (Member t q) e = cc
metric_found text (Method t q a) e = cc
metric_found text (Unary o q t) e = cc
metric_found text (Binary o q l r) e = cc
metric_found text (Ternary q c y n) e = cc

-- the type of an expression with this value
abbrev pub typed_as : Value → ExprType
typed_as known = V (type_of_value known)

pub same_type : (a b : ValueType) → V a ≡ V b → a ≡ b
same_type a b e = cc

typed_more : (front : List Value) (last : Value) → map typed_as (front ++ last ∷ []) ≡ map typed_as front ++ typed_as last ∷ []
typed_more [] last = refl
typed_more (x ∷ front) last = ap (λ rest. typed_as x ∷ rest) (typed_more front last)

-- the steps from the parts of an expression to the whole

unary_step : (o : _) (p : Span) (a known : Value) (type : ExprType) → at p (values.unary_value o a) ≡ Ok known → unary_type o (typed_as a) ≡ Some type →
    type ≡ typed_as known
unary_step o p a known type e h =
    let c = found_value (names.unary_value o (type_of_value a)) type h in
    sym c.2 ∙ ap V (unary_kept o a known c.0 (at_gave p (values.unary_value o a) known e) c.1)

-- the right operand of an operator has a value type too
pub right_valued : (o : BinaryOperator) (a : ValueType) (right type : ExprType) → binary_type o (V a) right ≡ Some type →
    (b : ValueType) × (c : ValueType) × (right ≡ V b) × (names.binary_value o a b ≡ Some c) × (V c ≡ type)
right_valued o a (V b) type e = let c = found_value (names.binary_value o a b) type e in (b, c.0, refl, c.1, c.2)
right_valued o a Stop type e = cc

binary_step : (o : BinaryOperator) (p : Span) (a known : Value) (right : Result Value Interrupt) (second type : ExprType) →
    ((b : Value) → right ≡ Ok b → second ≡ typed_as b) → binary_at o p a right ≡ Ok known → binary_type o (typed_as a) second ≡ Some type →
    type ≡ typed_as known
binary_step o p a known right second type ih e h = either (decided o a) refl e
  where
    either : (d : Option Value) → decided o a ≡ d → unless_decided d (right >>= (λ b. at p (values.binary_value o a b))) ≡ Ok known → type ≡ typed_as known
    either (Some x) is e =
        let t = right_valued o (type_of_value a) second type h in
        sym t.4 ∙ ap V (decided_kept o a x t.0 t.1 is t.3) ∙ ap typed_as (ok_same x known e)
    either None is e =
        let t = right_valued o (type_of_value a) second type h in
        let x = both right (λ b. at p (values.binary_value o a b)) known e in
        let same : t.0 ≡ type_of_value x.0 = same_type t.0 (type_of_value x.0) (sym t.2 ∙ ih x.0 x.1) in
        sym t.4 ∙ ap V (binary_kept o a x.0 known t.1 (at_gave p (values.binary_value o a x.0) known x.2)
        (ap (names.binary_value o (type_of_value a)) (sym same) ∙ t.3))

-- a condition is a double
condition_typed : (c a b type : ExprType) → ternary_type c a b ≡ Some type → branch_type a b ≡ Some type
condition_typed (V types.Double) a b type e = e
condition_typed (V types.DoubleVec) a b type e = cc
condition_typed (V types.Text) a b type e = cc
condition_typed (V types.Timestamp) a b type e = cc
condition_typed (V types.TimeInterval) a b type e = cc
condition_typed Stop a b type e = cc

first_branch : (a : ValueType) (b type : ExprType) → branch_type (V a) b ≡ Some type → type ≡ V a
first_branch a (V b) type e = let c = found_value (common_type a b) type e in sym c.2 ∙ ap V (sym (common_same a b c.0 c.1).0)
first_branch a Stop type e = cc

second_branch : (a : ExprType) (b : ValueType) (type : ExprType) → branch_type a (V b) ≡ Some type → type ≡ V b
second_branch (V a) b type e = let c = found_value (common_type a b) type e in sym c.2 ∙ ap V (sym (common_same a b c.0 c.1).1)
second_branch Stop b type e = cc

ternary_step : (c known : Value) (met unmet : Result Value Interrupt) (condition first second type : ExprType) →
    ((b : Value) → met ≡ Ok b → first ≡ typed_as b) → ((b : Value) → unmet ≡ Ok b → second ≡ typed_as b) → branch c met unmet ≡ Ok known →
    ternary_type condition first second ≡ Some type → type ≡ typed_as known
ternary_step c known met unmet condition first second type on_met on_unmet e h = either (is_true c) e
  where
    either : (b : Bool) → cond b met unmet ≡ Ok known → type ≡ typed_as known
    either true e = first_branch (type_of_value known) second type
        (ap (λ t. branch_type t second) (sym (on_met known e)) ∙ condition_typed condition first second type h)
    either false e = second_branch first (type_of_value known) type
        (ap (branch_type first) (sym (on_unmet known e)) ∙ condition_typed condition first second type h)

module _ (text : List ℕ) (metrics : Metrics) (now : ℕ) (set : Outcome) (variables : Variables) (agree : Agree variables set.variables) where
  mutual
    -- an expression with a type and a value has a value of that type
    pub kept : (t : Tree) (known : Value) (type : ExprType) → value_of text metrics now set t ≡ Ok known → type_of text variables t ≡ Ok type →
        type ≡ typed_as known
    kept (Numeral n p) known type e h = sym (ok_same (V types.Double) type h) ∙ ap typed_as (ok_same (Double n) known e)
    kept (Quoted p) known type e h = sym (ok_same (V types.Text) type h) ∙ ap typed_as (ok_same (string_value (part text p)) known e)
    kept (Variable p) known type e h =
        let t = named p (name_type variables (part text p)) type h in
        sym t.2 ∙ ap V (name_kept metrics set known t.0 variables (part text p) agree (at_gave p (name_value metrics set (part text p)) known e) t.1)
    kept (Call p args) known type e h =
        let x = both (values_of text metrics now set args) (call_at now p (function_named (part text p))) known e in
        let t = both (types_of text variables args) (typing.call_at p (function_named (part text p))) type h in
        let f = called p (function_named (part text p)) t.0 type t.2 in
        sym f.3
        ∙ call_kept now p f.0 x.0 known (ap (function_takes f.0) (sym (all_kept args x.0 t.0 x.1 t.1)) ∙ f.2) (ap (λ o. call_at now p o x.0) (sym f.1) ∙ x.2)
    kept (Vector p items) known type e h =
        let x = both (values_of text metrics now set items) (λ values. Ok (DoubleVec (flattened values))) known e in
        let t = both (types_of text variables items) (list_at p) type h in
        let double = passed (list_all is_double t.0) (V types.DoubleVec) type _ t.2 in
        sym double.1 ∙ ap typed_as (ok_same (DoubleVec (flattened x.0)) known x.2)
    kept (Member u p) known type e h =
        let x = both (value_of text metrics now set u) (λ operand. Ok (member_at (member_named (part text p)) operand)) known e in
        let t = both (type_of text variables u) (typing.member_at p (member_named (part text p))) type h in
        let m = member_found p (member_named (part text p)) t.0 type t.2 in
        sym m.3 ∙ member_kept m.0 x.0
        ∙ ap typed_as (ap (λ o. member_at o x.0) (sym m.1) ∙ ok_same (member_at (member_named (part text p)) x.0) known x.2)
    kept (Method u p args) known type e h =
        let x = both (values_of text metrics now set args) (method_at metrics now p (metric_of text u) (method_named (part text p))) known e in
        let operand = both (type_of text variables u)
        (λ operand. types_of text variables args >>= typing.method_at p (method_named (part text p)) (is_metric text u)) type h in
        let t = both (types_of text variables args) (typing.method_at p (method_named (part text p)) (is_metric text u)) type operand.2 in
        let m = method_found p (method_named (part text p)) (is_metric text u) t.0 type t.2 in
        let metric = metric_found text u m.2 in
        let given = ap (λ o. method_at metrics now p o (Some m.0) x.0) (sym metric.1) ∙ ap (λ o. method_at metrics now p (metric_of text u) o x.0) (sym m.1)
        ∙ x.2 in
        sym m.4
        ∙ method_kept (part_of metrics metric.0) m.0 x.0 now known (ap (method_takes m.0) (sym (all_kept args x.0 t.0 x.1 t.1)) ∙ m.3)
        (at_gave p (method_value (part_of metrics metric.0) m.0 x.0 now) known given)
    kept (Unary o p u) known type e h =
        let x = both (value_of text metrics now set u) (λ operand. at p (values.unary_value o operand)) known e in
        let t = both (type_of text variables u) (λ operand. or_mismatch p (unary_type o operand)) type h in
        unary_step o p x.0 known type x.2 (ap (unary_type o) (sym (kept u x.0 t.0 x.1 t.1)) ∙ matched p (unary_type o t.0) type t.2)
    kept (Binary o p l r) known type e h =
        let x = both (value_of text metrics now set l) (λ left. binary_at o p left (value_of text metrics now set r)) known e in
        let t = both (type_of text variables l) (λ left. type_of text variables r >>= (λ right. or_mismatch p (binary_type o left right))) type h in
        let u = both (type_of text variables r) (λ right. or_mismatch p (binary_type o t.0 right)) type t.2 in
        binary_step o p x.0 known (value_of text metrics now set r) u.0 type (λ b is. kept r b u.0 is u.1) x.2
        (ap (λ left. binary_type o left u.0) (sym (kept l x.0 t.0 x.1 t.1)) ∙ matched p (binary_type o t.0 u.0) type u.2)
    kept (Ternary p c y n) known type e h =
        let x = both (value_of text metrics now set c)
        (λ condition. branch condition (value_of text metrics now set y) (value_of text metrics now set n)) known e in
        let t = both (type_of text variables c)
        (λ condition. type_of text variables y >>= (λ first. type_of text variables n >>= (λ second. or_mismatch p (ternary_type condition first second))))
        type h in
        let u = both (type_of text variables y) (λ first. type_of text variables n >>= (λ second. or_mismatch p (ternary_type t.0 first second))) type t.2 in
        let w = both (type_of text variables n) (λ second. or_mismatch p (ternary_type t.0 u.0 second)) type u.2 in
        ternary_step x.0 known (value_of text metrics now set y) (value_of text metrics now set n) t.0 u.0 w.0 type (λ b is. kept y b u.0 is u.1)
        (λ b is. kept n b w.0 is w.1) x.2 (matched p (ternary_type t.0 u.0 w.0) type w.2)

    -- arguments with types and values have values of those types
    pub all_kept : (ts : Trees) (known : List Value) (found : List ExprType) → values_of text metrics now set ts ≡ Ok known →
        types_of text variables ts ≡ Ok found → found ≡ map typed_as known
    all_kept none known found e h = sym (ok_same [] found h) ∙ ap (map typed_as) (ok_same [] known e)
    all_kept (more front last) known found e h =
        let x = both (values_of text metrics now set front) (λ before. value_of text metrics now set last >>= (λ one. Ok (before ++ one ∷ []))) known e in
        let y = both (value_of text metrics now set last) (λ one. Ok (x.0 ++ one ∷ [])) known x.2 in
        let t = both (types_of text variables front) (λ before. type_of text variables last >>= (λ type. Ok (before ++ type ∷ []))) found h in
        let u = both (type_of text variables last) (λ type. Ok (t.0 ++ type ∷ [])) found t.2 in
        sym (ok_same (t.0 ++ u.0 ∷ []) found u.2)
        ∙ ap (λ rest. rest ++ u.0 ∷ []) (all_kept front x.0 t.0 x.1 t.1)
        ∙ ap (λ type. map typed_as x.0 ++ type ∷ []) (kept last y.0 u.0 y.1 u.1)
        ∙ sym (typed_more x.0 y.0)
        ∙ ap (map typed_as) (ok_same (x.0 ++ y.0 ∷ []) known y.2)
