-- Operators keep types: their results have the types that were found for their operands.
use Rattle.std.proofs.Common.{◌≡◌, ℤ, Bool, true, false, cond, List, length, Option, Some, None, Result, Ok, Err, refl, ap, ◌∙◌, subst}
use Rattle.std.specs.Prelude.{◌==◌, pos, ◌+ℤ◌, ◌-ℤ◌, ◌*ℤ◌}
use Rattle.std.specs.Ordering.{int_eq}
use Rattle.bt_base.specs.declared.number.NumFault.{NumFault}
use Rattle.bt_base.specs.Numbers.{cut, sum_of, difference_of, product_of, quotient_of}
use Rattle.formula_trees.specs.declared.token.BinaryOperator.{BinaryOperator}
use Rattle.formula_trees.specs.declared.token.BinaryOperator.TheVariants.{Or, And, Equal, NotEqual, Less, AtMost, Greater, AtLeast, Add, Subtract, Multiply}
use Rattle.formula_trees.specs.declared.token.BinaryOperator.TheVariants.{Divide}
use Rattle.formula_trees.specs.declared.tree.UnaryOperator.{UnaryOperator}
use Rattle.formula_trees.specs.declared.tree.UnaryOperator.TheVariants.{Negate, Invert}
use Rattle.formula_trees.specs.declared.value_types.ValueType.{ValueType}
use Rattle.formula_trees.specs.declared.value_types.ValueType.TheVariants as types
use Rattle.formula_trees.specs.Operators as names
use Rattle.formula_trees.specs.Operators.{numeric_type, sum_type, difference_type, product_type, quotient_type, common_type, comparison_type, logic_type}
use Rattle.formula_values.specs.declared.fault.ValueFault.{ValueFault}
use Rattle.formula_values.specs.declared.value.Value.{Value}
use Rattle.formula_values.specs.declared.value.Value.TheVariants.{Double, DoubleVec, Timestamp, TimeInterval}
use Rattle.formula_values.specs.Times.{is_timestamp, is_interval}
use Rattle.formula_values.specs.Values.{truth, is_true, double_of, interval_value, timestamp_value}
use Rattle.formula_values.specs.Operators as values
use Rattle.formula_values.specs.Operators.{each, each_two, vector_of, both_vectors, numeric, sum_value, difference_value, product_value, interval_over}
use Rattle.formula_values.specs.Operators.{quotient_value, negated, inverted}
use Rattle.formula_eval.specs.Evaluation.{decided}
use Rattle.formula_laws.specs.ValueTypes.{type_of_value}

-- a value, if there is one, has this type
abbrev pub IsOf : ValueType → Result Value ValueFault → Type 0
IsOf c (Ok v) = c ≡ type_of_value v
IsOf c (Err why) = Unit {0}

-- the same, if there is a type
abbrev pub Fits : Option ValueType → Result Value ValueFault → Type 0
Fits None r = Unit {0}
Fits (Some c) r = IsOf c r

pub has_type : (c : ValueType) (r : Result Value ValueFault) (v : Value) → IsOf c r → r ≡ Ok v → c ≡ type_of_value v
has_type c r v h e = subst (IsOf c) e h

pub fitting : (o : Option ValueType) (r : Result Value ValueFault) (v : Value) (c : ValueType) → Fits o r → r ≡ Ok v → o ≡ Some c → c ≡ type_of_value v
fitting o r v c h e is = subst (IsOf c) e (subst (λ q. Fits q r) is h)

-- the results of two branches
pub either_is : (c : ValueType) (b : Bool) (r s : Result Value ValueFault) → IsOf c r → IsOf c s → IsOf c (cond b r s)
either_is c true r s h g = h
either_is c false r s h g = g

pub truth_is : (b : Bool) → types.Double ≡ type_of_value (truth b)
truth_is true = refl
truth_is false = refl

pub double_is : (r : Result ℤ NumFault) → IsOf types.Double (double_of r)
double_is (Ok n) = refl
double_is (Err fault) = tt

pub vector_is : (r : Result (List ℤ) NumFault) → IsOf types.DoubleVec (vector_of r)
vector_is (Ok items) = refl
vector_is (Err fault) = tt

pub timestamp_is : (t : ℤ) → IsOf types.Timestamp (timestamp_value t)
timestamp_is t = either_is types.Timestamp (is_timestamp t) (Ok (Timestamp t)) _ refl tt

pub interval_is : (t : ℤ) → IsOf types.TimeInterval (interval_value t)
interval_is t = either_is types.TimeInterval (is_interval t) (Ok (TimeInterval t)) _ refl tt

vectors_are : (step : ℤ → ℤ → Result ℤ NumFault) (v w : List ℤ) → IsOf types.DoubleVec (both_vectors step v w)
vectors_are step v w = either_is types.DoubleVec (length v == length w) (vector_of (each_two step v w)) _ (vector_is (each_two step v w)) tt

over_is : (a b : ℤ) → IsOf types.TimeInterval (interval_over a b)
over_is a b = either_is types.TimeInterval (int_eq b (pos 0)) _ (interval_value (cut (a *ℤ pos 1000000) b)) tt (interval_is (cut (a *ℤ pos 1000000) b))

-- steps of doubles and vectors
numeric_fits : (step : ℤ → ℤ → Result ℤ NumFault) (a b : Value) → Fits (numeric_type (type_of_value a) (type_of_value b)) (numeric step a b)
numeric_fits step (Double a) (Double b) = double_is (step a b)
numeric_fits step (Double a) (DoubleVec w) = vector_is (each (step a) w)
numeric_fits step (DoubleVec v) (Double b) = vector_is (each (λ x. step x b) v)
numeric_fits step (DoubleVec v) (DoubleVec w) = vectors_are step v w
numeric_fits step _ _ = tt

sum_fits : (a b : Value) → Fits (sum_type (type_of_value a) (type_of_value b)) (sum_value a b)
sum_fits (TimeInterval a) (TimeInterval b) = interval_is (a +ℤ b)
sum_fits (Timestamp a) (TimeInterval b) = timestamp_is (a +ℤ b)
sum_fits (TimeInterval a) (Timestamp b) = timestamp_is (a +ℤ b)
sum_fits a b = numeric_fits sum_of a b

difference_fits : (a b : Value) → Fits (difference_type (type_of_value a) (type_of_value b)) (difference_value a b)
difference_fits (TimeInterval a) (TimeInterval b) = interval_is (a -ℤ b)
difference_fits (Timestamp a) (TimeInterval b) = timestamp_is (a -ℤ b)
difference_fits (Timestamp a) (Timestamp b) = interval_is (a -ℤ b)
difference_fits a b = numeric_fits difference_of a b

product_fits : (a b : Value) → Fits (product_type (type_of_value a) (type_of_value b)) (product_value a b)
product_fits (Double a) (TimeInterval b) = interval_is (cut (a *ℤ b) (pos 1000000))
product_fits (TimeInterval a) (Double b) = interval_is (cut (a *ℤ b) (pos 1000000))
product_fits a b = numeric_fits product_of a b

quotient_fits : (a b : Value) → Fits (quotient_type (type_of_value a) (type_of_value b)) (quotient_value a b)
quotient_fits (TimeInterval a) (Double b) = over_is a b
quotient_fits a b = numeric_fits quotient_of a b

-- comparisons and logic are 1 or 0
comparison_fits : (a b : ValueType) (holds : Bool) → Fits (comparison_type a b) (Ok (truth holds))
comparison_fits types.Double types.Double holds = truth_is holds
comparison_fits types.Text types.Text holds = truth_is holds
comparison_fits types.Timestamp types.Timestamp holds = truth_is holds
comparison_fits types.TimeInterval types.TimeInterval holds = truth_is holds
comparison_fits _ _ holds = tt

logic_fits : (a b : ValueType) (holds : Bool) → Fits (logic_type a b) (Ok (truth holds))
logic_fits types.Double types.Double holds = truth_is holds
logic_fits _ _ holds = tt

binary_fits : (o : BinaryOperator) (a b : Value) → Fits (names.binary_value o (type_of_value a) (type_of_value b)) (values.binary_value o a b)
binary_fits Or a b = logic_fits (type_of_value a) (type_of_value b) _
binary_fits And a b = logic_fits (type_of_value a) (type_of_value b) _
binary_fits Equal a b = comparison_fits (type_of_value a) (type_of_value b) _
binary_fits NotEqual a b = comparison_fits (type_of_value a) (type_of_value b) _
binary_fits Less a b = comparison_fits (type_of_value a) (type_of_value b) _
binary_fits AtMost a b = comparison_fits (type_of_value a) (type_of_value b) _
binary_fits Greater a b = comparison_fits (type_of_value a) (type_of_value b) _
binary_fits AtLeast a b = comparison_fits (type_of_value a) (type_of_value b) _
binary_fits Add a b = sum_fits a b
binary_fits Subtract a b = difference_fits a b
binary_fits Multiply a b = product_fits a b
binary_fits Divide a b = quotient_fits a b

unary_fits : (o : UnaryOperator) (a : Value) → Fits (names.unary_value o (type_of_value a)) (values.unary_value o a)
unary_fits Negate (Double a) = double_is _
unary_fits Negate (DoubleVec v) = vector_is _
unary_fits Negate (TimeInterval a) = interval_is (pos 0 -ℤ a)
unary_fits Invert (Double a) = truth_is _
unary_fits _ _ = tt

-- the result of a unary operator has the type that was found
pub unary_kept : (o : UnaryOperator) (a v : Value) (c : ValueType) → values.unary_value o a ≡ Ok v → names.unary_value o (type_of_value a) ≡ Some c →
    c ≡ type_of_value v
unary_kept o a v c e is = fitting (names.unary_value o (type_of_value a)) (values.unary_value o a) v c (unary_fits o a) e is

-- the result of a binary operator has the type that was found
pub binary_kept : (o : BinaryOperator) (a b v : Value) (c : ValueType) → values.binary_value o a b ≡ Ok v →
    names.binary_value o (type_of_value a) (type_of_value b) ≡ Some c → c ≡ type_of_value v
binary_kept o a b v c e is = fitting (names.binary_value o (type_of_value a) (type_of_value b)) (values.binary_value o a b) v c (binary_fits o a b) e is

-- what is decided is 1 or 0
truth_known : (holds : Bool) (v : Value) → Some (truth holds) ≡ Some v → types.Double ≡ type_of_value v
truth_known holds v e = truth_is holds ∙ ap type_of_value (cc)

decided_false : (b : Bool) (v : Value) → cond {A = Option Value} b None (Some (truth false)) ≡ Some v → types.Double ≡ type_of_value v
decided_false true v e = cc
decided_false false v e = truth_known false v e

decided_true : (b : Bool) (v : Value) → cond {A = Option Value} b (Some (truth true)) None ≡ Some v → types.Double ≡ type_of_value v
decided_true true v e = truth_known true v e
decided_true false v e = cc

logic_double : (a b c : ValueType) → logic_type a b ≡ Some c → c ≡ types.Double
logic_double types.Double types.Double c e = cc
logic_double _ _ c e = cc

-- what the left side decides alone has the type that was found for both sides
pub decided_kept : (o : BinaryOperator) (a v : Value) (b c : ValueType) → decided o a ≡ Some v → names.binary_value o (type_of_value a) b ≡ Some c →
    c ≡ type_of_value v
decided_kept And a v b c e is = logic_double (type_of_value a) b c is ∙ decided_false (is_true a) v e
decided_kept Or a v b c e is = logic_double (type_of_value a) b c is ∙ decided_true (is_true a) v e
decided_kept _ a v b c e is = cc

-- two values of one type
pub common_same : (a b c : ValueType) → common_type a b ≡ Some c → (a ≡ c) × (b ≡ c)
common_same types.Double types.Double c e = (cc, cc)
common_same types.DoubleVec types.DoubleVec c e = (cc, cc)
common_same types.Text types.Text c e = (cc, cc)
common_same types.Timestamp types.Timestamp c e = (cc, cc)
common_same types.TimeInterval types.TimeInterval c e = (cc, cc)
common_same _ _ c e = (cc, cc)
