-- An expression with a type meets only operands and arguments that go together.
use Rattle.std.proofs.Common.{◌≡◌, ℕ, List, [], ◌∷◌, ◌++◌, Option, Some, None, Ok, is_some, IsSome, refl, sym, ap, ◌∙◌}
use Rattle.std.specs.Prelude.{option_map}
use Rattle.std.specs.List.{list_all}
use Rattle.bt_base.specs.Fails.{◌>>=◌}
use Rattle.formula_trees.specs.declared.token.BinaryOperator.{BinaryOperator}
use Rattle.formula_trees.specs.declared.tree.UnaryOperator.{UnaryOperator}
use Rattle.formula_trees.specs.Tree.{Tree, Numeral, Quoted, Variable, Call, Vector, Member, Method, Unary, Binary, Ternary, Trees, none, more}
use Rattle.formula_trees.specs.declared.value_types.ValueType.{ValueType}
use Rattle.formula_trees.specs.declared.value_types.ValueType.TheVariants as types
use Rattle.formula_trees.specs.declared.value_types.ExprType.{ExprType}
use Rattle.formula_trees.specs.declared.value_types.ExprType.TheVariants.{Value as V}
use Rattle.formula_trees.specs.Names.{fixed_type, function_named, method_named, member_named}
use Rattle.formula_trees.specs.Operators as names
use Rattle.formula_trees.specs.Operators.{unary_type, binary_type, ternary_type}
use Rattle.formula_trees.specs.Signatures.{is_double, function_takes, method_takes}
use Rattle.formula_types.specs.Scopes.{Variables, part, or_else, name_type}
use Rattle.formula_types.specs.Typing as typing
use Rattle.formula_types.specs.Typing.{type_of, types_of, or_mismatch, list_at, is_metric}
use Rattle.formula_values.specs.declared.value.Value.{Value}
use Rattle.formula_metrics.specs.declared.metrics.Metrics.{Metrics}
use Rattle.formula_eval.specs.declared.outcome.Outcome.{Outcome}
use Rattle.formula_eval.specs.Outcomes.{value_among}
use Rattle.formula_laws.specs.ValueTypes.{type_of_value, Agree}
use Rattle.formula_laws.specs.Operands.{GoTogether, AllGoTogether, EachGoTogether}
use Rattle.formula_types.proofs.Found.{both, passed, matched, named, called, member_found, method_found}
use Rattle.formula_laws.proofs.Expressions.{same_type, metric_found, found_value, right_valued, kept, all_kept}

-- if there is a type of a value, there is the value
valued_there : (o : Option Value) (v : ValueType) → option_map type_of_value o ≡ Some v → IsSome o
valued_there None v e = cc
valued_there (Some known) v e = refl

-- a name that means nothing else is a variable's
own_typed : (fixed own : Option ValueType) (v : ValueType) → or_else fixed own ≡ Some v → fixed ≡ None → own ≡ Some v
own_typed None own v e is = e
own_typed (Some other) own v e is = cc

-- an operator with a type takes operands of the types that were found
unary_takes : (o : UnaryOperator) (a : ValueType) (operand type : ExprType) → operand ≡ V a → unary_type o operand ≡ Some type → IsSome (names.unary_value o a)
unary_takes o a operand type is h = ap is_some (found_value (names.unary_value o a) type (ap (unary_type o) (sym is) ∙ h)).1

-- the types that an operator takes after a left operand of this type
binary_takes : (o : BinaryOperator) (a : ValueType) (left right type : ExprType) → left ≡ V a → binary_type o left right ≡ Some type →
    (b : ValueType) × (right ≡ V b) × IsSome (names.binary_value o a b)
binary_takes o a left right type first h =
    let t = right_valued o a right type (ap (λ t. binary_type o t right) (sym first) ∙ h) in
    (t.0, t.2, ap is_some t.3)

-- a condition is a double
double_condition : (v : ValueType) (a b type : ExprType) → ternary_type (V v) a b ≡ Some type → v ≡ types.Double
double_condition types.Double a b type e = refl
double_condition types.DoubleVec a b type e = cc
double_condition types.Text a b type e = cc
double_condition types.Timestamp a b type e = cc
double_condition types.TimeInterval a b type e = cc

ternary_takes : (v : ValueType) (condition a b type : ExprType) → condition ≡ V v → ternary_type condition a b ≡ Some type → v ≡ types.Double
ternary_takes v condition a b type is h = double_condition v a b type (ap (λ t. ternary_type t a b) (sym is) ∙ h)

module _ (text : List ℕ) (metrics : Metrics) (now : ℕ) (set : Outcome) (variables : Variables) (agree : Agree variables set.variables) where
  -- one step of each kind of expression: its operands have the types that were found for them
  operands_kept : (t : Tree) (found : ExprType) → type_of text variables t ≡ Ok found → GoTogether text metrics now set t
  operands_kept (Numeral n p) found h = tt
  operands_kept (Quoted p) found h = tt
  operands_kept (Variable p) found h = λ is.
      let t = named p (name_type variables (part text p)) found h in
      valued_there (value_among set.variables (part text p)) t.0
      (agree (part text p) ∙ own_typed (fixed_type (part text p)) (variables (part text p)) t.0 t.1 is)
  operands_kept (Call p args) found h = λ known e.
      let t = both (types_of text variables args) (typing.call_at p (function_named (part text p))) found h in
      let f = called p (function_named (part text p)) t.0 found t.2 in
      (f.0, f.1, ap (function_takes f.0) (sym (all_kept text metrics now set variables agree args known t.0 e t.1)) ∙ f.2)
  operands_kept (Vector p items) found h = λ known e.
      let t = both (types_of text variables items) (list_at p) found h in
      let double = passed (list_all is_double t.0) (V types.DoubleVec) found _ t.2 in
      ap (list_all is_double) (sym (all_kept text metrics now set variables agree items known t.0 e t.1)) ∙ double.0
  operands_kept (Member u p) found h = λ a e.
      let t = both (type_of text variables u) (typing.member_at p (member_named (part text p))) found h in
      let m = member_found p (member_named (part text p)) t.0 found t.2 in
      (m.0, m.1, same_type (type_of_value a) types.Timestamp (sym (kept text metrics now set variables agree u a t.0 e t.1) ∙ m.2))
  operands_kept (Method u p args) found h = λ known e.
      let operand = both (type_of text variables u)
      (λ operand. types_of text variables args >>= typing.method_at p (method_named (part text p)) (is_metric text u)) found h in
      let t = both (types_of text variables args) (typing.method_at p (method_named (part text p)) (is_metric text u)) found operand.2 in
      let m = method_found p (method_named (part text p)) (is_metric text u) t.0 found t.2 in
      let metric = metric_found text u m.2 in
      (metric.0, metric.1, m.0, m.1, ap (method_takes m.0) (sym (all_kept text metrics now set variables agree args known t.0 e t.1)) ∙ m.3)
  operands_kept (Unary o p u) found h = λ a e.
      let t = both (type_of text variables u) (λ operand. or_mismatch p (unary_type o operand)) found h in
      unary_takes o (type_of_value a) t.0 found (kept text metrics now set variables agree u a t.0 e t.1) (matched p (unary_type o t.0) found t.2)
  operands_kept (Binary o p l r) found h = λ a left.
      let t = both (type_of text variables l) (λ first. type_of text variables r >>= (λ second. or_mismatch p (binary_type o first second))) found h in
      let u = both (type_of text variables r) (λ second. or_mismatch p (binary_type o t.0 second)) found t.2 in
      let b = binary_takes o (type_of_value a) t.0 u.0 found (kept text metrics now set variables agree l a t.0 left t.1)
      (matched p (binary_type o t.0 u.0) found u.2) in
      (b.0, b.2, λ known right. same_type (type_of_value known) b.0 (sym (kept text metrics now set variables agree r known u.0 right u.1) ∙ b.1))
  operands_kept (Ternary p c y n) found h = λ a e.
      let t = both (type_of text variables c)
      (λ condition. type_of text variables y >>= (λ first. type_of text variables n >>= (λ second. or_mismatch p (ternary_type condition first second))))
      found h in
      let u = both (type_of text variables y) (λ first. type_of text variables n >>= (λ second. or_mismatch p (ternary_type t.0 first second))) found t.2 in
      let w = both (type_of text variables n) (λ second. or_mismatch p (ternary_type t.0 u.0 second)) found u.2 in
      ternary_takes (type_of_value a) t.0 u.0 w.0 found (kept text metrics now set variables agree c a t.0 e t.1)
      (matched p (ternary_type t.0 u.0 w.0) found w.2)

  mutual
    -- the same of all parts, which have types if the whole has one
    pub all_operands_kept : (t : Tree) (found : ExprType) → type_of text variables t ≡ Ok found → AllGoTogether text metrics now set t
    all_operands_kept (Numeral n p) found h = tt
    all_operands_kept (Quoted p) found h = tt
    all_operands_kept (Variable p) found h = operands_kept (Variable p) found h
    all_operands_kept (Call p args) found h =
        let t = both (types_of text variables args) (typing.call_at p (function_named (part text p))) found h in
        (operands_kept (Call p args) found h, each_kept args t.0 t.1)
    all_operands_kept (Vector p items) found h =
        let t = both (types_of text variables items) (list_at p) found h in
        (operands_kept (Vector p items) found h, each_kept items t.0 t.1)
    all_operands_kept (Member u p) found h =
        let t = both (type_of text variables u) (typing.member_at p (member_named (part text p))) found h in
        (operands_kept (Member u p) found h, all_operands_kept u t.0 t.1)
    all_operands_kept (Method u p args) found h =
        let operand = both (type_of text variables u)
        (λ operand. types_of text variables args >>= typing.method_at p (method_named (part text p)) (is_metric text u)) found h in
        let t = both (types_of text variables args) (typing.method_at p (method_named (part text p)) (is_metric text u)) found operand.2 in
        (operands_kept (Method u p args) found h, each_kept args t.0 t.1)
    all_operands_kept (Unary o p u) found h =
        let t = both (type_of text variables u) (λ operand. or_mismatch p (unary_type o operand)) found h in
        (operands_kept (Unary o p u) found h, all_operands_kept u t.0 t.1)
    all_operands_kept (Binary o p l r) found h =
        let t = both (type_of text variables l) (λ first. type_of text variables r >>= (λ second. or_mismatch p (binary_type o first second))) found h in
        let u = both (type_of text variables r) (λ second. or_mismatch p (binary_type o t.0 second)) found t.2 in
        (operands_kept (Binary o p l r) found h, all_operands_kept l t.0 t.1, all_operands_kept r u.0 u.1)
    all_operands_kept (Ternary p c y n) found h =
        let t = both (type_of text variables c)
        (λ condition. type_of text variables y >>= (λ first. type_of text variables n >>= (λ second. or_mismatch p (ternary_type condition first second))))
        found h in
        let u = both (type_of text variables y) (λ first. type_of text variables n >>= (λ second. or_mismatch p (ternary_type t.0 first second))) found t.2 in
        let w = both (type_of text variables n) (λ second. or_mismatch p (ternary_type t.0 u.0 second)) found u.2 in
        (operands_kept (Ternary p c y n) found h, all_operands_kept c t.0 t.1, all_operands_kept y u.0 u.1, all_operands_kept n w.0 w.1)

    each_kept : (ts : Trees) (found : List ExprType) → types_of text variables ts ≡ Ok found → EachGoTogether text metrics now set ts
    each_kept none found h = tt
    each_kept (more front last) found h =
        let t = both (types_of text variables front) (λ types. type_of text variables last >>= (λ type. Ok (types ++ type ∷ []))) found h in
        let u = both (type_of text variables last) (λ type. Ok (t.0 ++ type ∷ [])) found t.2 in
        (each_kept front t.0 t.1, all_operands_kept last u.0 u.1)
