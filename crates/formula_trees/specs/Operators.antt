-- The types of the operands and results of operators.
use Rattle.std.specs.Prelude.{Option, Some, None}
use Rattle.formula_trees.specs.declared.token.BinaryOperator.{BinaryOperator}
use Rattle.formula_trees.specs.declared.token.BinaryOperator.TheVariants.{Or, And, Equal, NotEqual, Less, AtMost, Greater, AtLeast, Add, Subtract, Multiply}
use Rattle.formula_trees.specs.declared.token.BinaryOperator.TheVariants.{Divide}
use Rattle.formula_trees.specs.declared.tree.UnaryOperator.{UnaryOperator}
use Rattle.formula_trees.specs.declared.tree.UnaryOperator.TheVariants.{Negate, Invert}
use Rattle.formula_trees.specs.declared.value_types.ValueType.{ValueType}
use Rattle.formula_trees.specs.declared.value_types.ValueType.TheVariants.{Double, DoubleVec, Text, Timestamp, TimeInterval}
use Rattle.formula_trees.specs.declared.value_types.ExprType.{ExprType}
use Rattle.formula_trees.specs.declared.value_types.ExprType.TheVariants.{Value, Stop}

-- arithmetic of two doubles is a double; a vector goes with a double or a vector, element by element
abbrev pub numeric_type : ValueType → ValueType → Option ValueType
numeric_type Double Double = Some Double
numeric_type Double DoubleVec = Some DoubleVec
numeric_type DoubleVec Double = Some DoubleVec
numeric_type DoubleVec DoubleVec = Some DoubleVec
numeric_type _ _ = None

-- a + b
abbrev pub sum_type : ValueType → ValueType → Option ValueType
sum_type TimeInterval TimeInterval = Some TimeInterval
sum_type Timestamp TimeInterval = Some Timestamp
sum_type TimeInterval Timestamp = Some Timestamp
sum_type a b = numeric_type a b

-- a - b
abbrev pub difference_type : ValueType → ValueType → Option ValueType
difference_type TimeInterval TimeInterval = Some TimeInterval
difference_type Timestamp TimeInterval = Some Timestamp
difference_type Timestamp Timestamp = Some TimeInterval
difference_type a b = numeric_type a b

-- a * b
abbrev pub product_type : ValueType → ValueType → Option ValueType
product_type Double TimeInterval = Some TimeInterval
product_type TimeInterval Double = Some TimeInterval
product_type a b = numeric_type a b

-- a / b
abbrev pub quotient_type : ValueType → ValueType → Option ValueType
quotient_type TimeInterval Double = Some TimeInterval
quotient_type a b = numeric_type a b

-- the type that both have, if it is one type
abbrev pub common_type : ValueType → ValueType → Option ValueType
common_type Double Double = Some Double
common_type DoubleVec DoubleVec = Some DoubleVec
common_type Text Text = Some Text
common_type Timestamp Timestamp = Some Timestamp
common_type TimeInterval TimeInterval = Some TimeInterval
common_type _ _ = None

-- like types but vectors can be compared; a comparison is 1 or 0
abbrev pub comparison_type : ValueType → ValueType → Option ValueType
comparison_type Double Double = Some Double
comparison_type Text Text = Some Double
comparison_type Timestamp Timestamp = Some Double
comparison_type TimeInterval TimeInterval = Some Double
comparison_type _ _ = None

-- `&&` and `||` take doubles
abbrev pub logic_type : ValueType → ValueType → Option ValueType
logic_type Double Double = Some Double
logic_type _ _ = None

-- the type of a binary operator with values of these types
abbrev pub binary_value : BinaryOperator → ValueType → ValueType → Option ValueType
binary_value Or a b = logic_type a b
binary_value And a b = logic_type a b
binary_value Equal a b = comparison_type a b
binary_value NotEqual a b = comparison_type a b
binary_value Less a b = comparison_type a b
binary_value AtMost a b = comparison_type a b
binary_value Greater a b = comparison_type a b
binary_value AtLeast a b = comparison_type a b
binary_value Add a b = sum_type a b
binary_value Subtract a b = difference_type a b
binary_value Multiply a b = product_type a b
binary_value Divide a b = quotient_type a b

-- `-` takes a double, a vector or a timeinterval, and `!` a double; the result has the same type
abbrev pub unary_value : UnaryOperator → ValueType → Option ValueType
unary_value Negate Double = Some Double
unary_value Negate DoubleVec = Some DoubleVec
unary_value Negate TimeInterval = Some TimeInterval
unary_value Invert Double = Some Double
unary_value _ _ = None

-- an expression with a value, if there is one
abbrev pub valued : Option ValueType → Option ExprType
valued None = None
valued (Some value) = Some (Value value)

-- the same for expressions: what stops the evaluation is not an operand
abbrev pub binary_type : BinaryOperator → ExprType → ExprType → Option ExprType
binary_type o (Value a) (Value b) = valued (binary_value o a b)
binary_type _ _ _ = None

-- a unary operator with an operand
abbrev pub unary_type : UnaryOperator → ExprType → Option ExprType
unary_type o (Value a) = valued (unary_value o a)
unary_type _ Stop = None

-- the branches of a ternary have one type; one that stops the evaluation fits beside any
abbrev pub branch_type : ExprType → ExprType → Option ExprType
branch_type Stop b = Some b
branch_type (Value a) Stop = Some (Value a)
branch_type (Value a) (Value b) = valued (common_type a b)

-- a ternary's condition is a double
abbrev pub ternary_type : ExprType → ExprType → ExprType → Option ExprType
ternary_type (Value Double) a b = branch_type a b
ternary_type _ a b = None
