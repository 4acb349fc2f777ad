-- The types of the arguments and results of functions and methods.
use Rattle.std.specs.Prelude.{Bool, true, false, ◌&&◌, ◌||◌, List, [], ◌∷◌, Option, Some, None, if◌then◌else◌}
use Rattle.std.specs.List.{list_all}
use Rattle.formula_trees.specs.declared.names.Function.{Function}
use Rattle.formula_trees.specs.declared.names.Function.TheVariants.{Avg, Max, Min, Sum, Range, Len, Norm, Percentile, Val, Ceil, Floor, Round, Time, Stop}
use Rattle.formula_trees.specs.declared.names.Method.{Method}
use Rattle.formula_trees.specs.declared.names.Method.TheVariants.{GetSample, GetSamplePercent, GetSamplePeriod, Count, HistoryBeginTime}
use Rattle.formula_trees.specs.declared.value_types.ValueType.TheVariants.{Double, DoubleVec, Text, Timestamp, TimeInterval}
use Rattle.formula_trees.specs.declared.value_types.ExprType.{ExprType}
use Rattle.formula_trees.specs.declared.value_types.ExprType.TheVariants.{Value, Stop as Stops}

-- the argument is a double
abbrev pub is_double : ExprType → Bool
is_double (Value Double) = true
is_double _ = false

-- the argument is a vector of doubles
abbrev pub is_vector : ExprType → Bool
is_vector (Value DoubleVec) = true
is_vector _ = false

-- the argument is a text
abbrev pub is_text : ExprType → Bool
is_text (Value Text) = true
is_text _ = false

-- the argument is a timestamp
abbrev pub is_timestamp : ExprType → Bool
is_timestamp (Value Timestamp) = true
is_timestamp _ = false

-- a timestamp, or a timeinterval that is counted back from now
abbrev pub is_moment : ExprType → Bool
is_moment (Value Timestamp) = true
is_moment (Value TimeInterval) = true
is_moment _ = false

-- a double, or a vector of doubles
abbrev pub is_numeric : ExprType → Bool
is_numeric (Value Double) = true
is_numeric (Value DoubleVec) = true
is_numeric _ = false

-- no arguments
abbrev pub are_none : List ExprType → Bool
are_none [] = true
are_none _ = false

-- one argument that passes a test
abbrev pub are_one : (ExprType → Bool) → List ExprType → Bool
are_one p (a ∷ []) = p a
are_one p _ = false

-- two arguments that pass a test each
abbrev pub are_two : (ExprType → Bool) → (ExprType → Bool) → List ExprType → Bool
are_two p q (a ∷ b ∷ []) = p a && q b
are_two p q _ = false

-- three arguments that pass a test each
abbrev pub are_three : (ExprType → Bool) → (ExprType → Bool) → (ExprType → Bool) → List ExprType → Bool
are_three p q r (a ∷ b ∷ c ∷ []) = p a && (q b && r c)
are_three p q r _ = false

-- one or more doubles and vectors
abbrev pub are_numeric : List ExprType → Bool
are_numeric [] = false
are_numeric (a ∷ args) = is_numeric a && list_all is_numeric args

-- a function takes these arguments
abbrev pub function_takes : Function → List ExprType → Bool
function_takes Avg args = are_numeric args
function_takes Max args = are_numeric args
function_takes Min args = are_numeric args
function_takes Sum args = are_numeric args
function_takes Range args = are_numeric args
function_takes Len args = are_one is_vector args
function_takes Norm args = are_one is_vector args
function_takes Percentile args = are_two is_vector is_double args
function_takes Val args = are_two is_vector is_double args
function_takes Ceil args = are_one is_double args
function_takes Floor args = are_one is_double args
function_takes Round args = are_one is_double args
function_takes Time args = are_none args || are_one is_text args
function_takes Stop args = are_none args

-- the type of a function's result. `stop()` has no value: it ends the evaluation.
abbrev pub function_result : Function → ExprType
function_result Time = Value Timestamp
function_result Stop = Stops
function_result _ = Value Double

-- a metric's method takes these arguments
abbrev pub method_takes : Method → List ExprType → Bool
method_takes GetSample args =
    are_one is_double args
    || are_one is_moment args
    || are_two is_moment is_double args
    || are_two is_moment is_moment args
    || are_three is_moment is_moment is_double args
method_takes GetSamplePercent args = are_one is_moment args || are_two is_moment is_moment args
method_takes GetSamplePeriod args = are_none args
method_takes Count args = are_none args
method_takes HistoryBeginTime args = are_none args

-- the type of the result of a metric's method
abbrev pub method_result : Method → ExprType
method_result GetSample = Value DoubleVec
method_result GetSamplePercent = Value Double
method_result GetSamplePeriod = Value TimeInterval
method_result Count = Value Double
method_result HistoryBeginTime = Value Timestamp
