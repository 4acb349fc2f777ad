-- The results of operators. What an operator does not take is in no formula; there the result is the left operand.
use Rattle.std.specs.Prelude.{◌==◌, ◌&&◌, ◌||◌, ℤ, pos, ◌+ℤ◌, ◌-ℤ◌, ◌*ℤ◌, List, [], ◌∷◌, length, Result, Ok, Err, if◌then◌else◌}
use Rattle.std.specs.declared.cmp.Ordering.{Ordering}
use Rattle.std.specs.declared.cmp.Ordering.TheVariants.{Equal}
use Rattle.std.specs.Ordering.{nat_cmp, int_cmp, int_eq, is_eq, is_ne, is_lt, is_le, is_gt, is_ge}
use Rattle.std.specs.Cmp.Lexicographic.{slice_cmp}
use Rattle.bt_base.specs.Fails.{◌>>=◌}
use Rattle.bt_base.specs.Numbers.{cut, sum_of, difference_of, product_of, quotient_of}
use Rattle.bt_base.specs.declared.number.NumFault.{NumFault}
use Rattle.formula_trees.specs.declared.token.BinaryOperator.{BinaryOperator}
use Rattle.formula_trees.specs.declared.token.BinaryOperator.TheVariants as operators
use Rattle.formula_trees.specs.declared.tree.UnaryOperator.{UnaryOperator}
use Rattle.formula_trees.specs.declared.tree.UnaryOperator.TheVariants.{Negate, Invert}
use Rattle.formula_values.specs.declared.fault.ValueFault.{ValueFault}
use Rattle.formula_values.specs.declared.fault.ValueFault.TheVariants.{DivideByZero, LengthsDiffer}
use Rattle.formula_values.specs.declared.value.Value.{Value}
use Rattle.formula_values.specs.declared.value.Value.TheVariants.{Double, DoubleVec, Text, Timestamp, TimeInterval}
use Rattle.formula_values.specs.Values.{truth, is_true, of_number, double_of, interval_value, timestamp_value}

-- an operation on each item, or the first fault
abbrev pub each : (ℤ → Result ℤ NumFault) → List ℤ → Result (List ℤ) NumFault
each step [] = Ok []
each step (x ∷ xs) = step x >>= (λ y. each step xs >>= (λ ys. Ok (y ∷ ys)))

-- an operation on each two items of the same index, or the first fault
abbrev pub each_two : (ℤ → ℤ → Result ℤ NumFault) → List ℤ → List ℤ → Result (List ℤ) NumFault
each_two step (x ∷ xs) (y ∷ ys) = step x y >>= (λ z. each_two step xs ys >>= (λ zs. Ok (z ∷ zs)))
each_two step _ _ = Ok []

-- numbers as a vector, or their fault
abbrev pub vector_of : Result (List ℤ) NumFault → Result Value ValueFault
vector_of (Ok items) = Ok (DoubleVec items)
vector_of (Err fault) = Err (of_number fault)

-- two vectors go together only if they have the same length
abbrev pub both_vectors : (ℤ → ℤ → Result ℤ NumFault) → List ℤ → List ℤ → Result Value ValueFault
both_vectors step v w = if length v == length w then vector_of (each_two step v w) else Err LengthsDiffer

-- an operation on doubles; with a vector it is done item by item
abbrev pub numeric : (ℤ → ℤ → Result ℤ NumFault) → Value → Value → Result Value ValueFault
numeric step (Double a) (Double b) = double_of (step a b)
numeric step (Double a) (DoubleVec w) = vector_of (each (step a) w)
numeric step (DoubleVec v) (Double b) = vector_of (each (λ x. step x b) v)
numeric step (DoubleVec v) (DoubleVec w) = both_vectors step v w
numeric step a b = Ok a

-- a + b
abbrev pub sum_value : Value → Value → Result Value ValueFault
sum_value (TimeInterval a) (TimeInterval b) = interval_value (a +ℤ b)
sum_value (Timestamp a) (TimeInterval b) = timestamp_value (a +ℤ b)
sum_value (TimeInterval a) (Timestamp b) = timestamp_value (a +ℤ b)
sum_value a b = numeric sum_of a b

-- a - b
abbrev pub difference_value : Value → Value → Result Value ValueFault
difference_value (TimeInterval a) (TimeInterval b) = interval_value (a -ℤ b)
difference_value (Timestamp a) (TimeInterval b) = timestamp_value (a -ℤ b)
difference_value (Timestamp a) (Timestamp b) = interval_value (a -ℤ b)
difference_value a b = numeric difference_of a b

-- a * b; a timeinterval is cut to whole units, toward zero
abbrev pub product_value : Value → Value → Result Value ValueFault
product_value (Double a) (TimeInterval b) = interval_value (cut (a *ℤ b) (pos 1000000))
product_value (TimeInterval a) (Double b) = interval_value (cut (a *ℤ b) (pos 1000000))
product_value a b = numeric product_of a b

-- a timeinterval over a double, cut to whole units, toward zero; nothing is divided by zero
abbrev pub interval_over : ℤ → ℤ → Result Value ValueFault
interval_over a b = if int_eq b (pos 0) then Err DivideByZero else interval_value (cut (a *ℤ pos 1000000) b)

-- a / b
abbrev pub quotient_value : Value → Value → Result Value ValueFault
quotient_value (TimeInterval a) (Double b) = interval_over a b
quotient_value a b = numeric quotient_of a b

-- the order of two values of one type; strings go by their bytes
abbrev pub order_of : Value → Value → Ordering
order_of (Double a) (Double b) = int_cmp a b
order_of (Text a) (Text b) = slice_cmp nat_cmp a b
order_of (Timestamp a) (Timestamp b) = int_cmp a b
order_of (TimeInterval a) (TimeInterval b) = int_cmp a b
order_of a b = Equal

-- the result of a binary operator
abbrev pub binary_value : BinaryOperator → Value → Value → Result Value ValueFault
binary_value operators.Or a b = Ok (truth (is_true a || is_true b))
binary_value operators.And a b = Ok (truth (is_true a && is_true b))
binary_value operators.Equal a b = Ok (truth (is_eq (order_of a b)))
binary_value operators.NotEqual a b = Ok (truth (is_ne (order_of a b)))
binary_value operators.Less a b = Ok (truth (is_lt (order_of a b)))
binary_value operators.AtMost a b = Ok (truth (is_le (order_of a b)))
binary_value operators.Greater a b = Ok (truth (is_gt (order_of a b)))
binary_value operators.AtLeast a b = Ok (truth (is_ge (order_of a b)))
binary_value operators.Add a b = sum_value a b
binary_value operators.Subtract a b = difference_value a b
binary_value operators.Multiply a b = product_value a b
binary_value operators.Divide a b = quotient_value a b

-- -a
abbrev pub negated : Value → Result Value ValueFault
negated (Double a) = double_of (difference_of (pos 0) a)
negated (DoubleVec v) = vector_of (each (difference_of (pos 0)) v)
negated (TimeInterval a) = interval_value (pos 0 -ℤ a)
negated a = Ok a

-- !a
abbrev pub inverted : Value → Result Value ValueFault
inverted (Double a) = Ok (truth (int_eq a (pos 0)))
inverted a = Ok a

-- the result of a unary operator
abbrev pub unary_value : UnaryOperator → Value → Result Value ValueFault
unary_value Negate a = negated a
unary_value Invert a = inverted a
