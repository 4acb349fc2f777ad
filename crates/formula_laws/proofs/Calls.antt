-- Functions and members keep types: their results have the types that were found.
use Rattle.std.proofs.Common.{◌≡◌, ◌||◌, ℕ, ℤ, true, List, [], ◌∷◌, map, length, Option, Some, None, Result, Ok, Err, refl, ap, arith}
use Rattle.std.specs.Prelude.{pos, negsuc, int_lt, unsigned_abs, slice_get}
use Rattle.bt_base.specs.declared.fail.Fail.TheVariants.{Memory, Why}
use Rattle.bt_base.specs.Numbers.{bounded}
use Rattle.formula_trees.specs.declared.token.Span.{Span}
use Rattle.formula_trees.specs.declared.names.Function.{Function}
use Rattle.formula_trees.specs.declared.names.Function.TheVariants.{Avg, Max, Min, Sum, Range, Len, Norm, Percentile, Val, Ceil, Floor, Round, Time, Stop}
use Rattle.formula_trees.specs.declared.names.Member.{Member}
use Rattle.formula_trees.specs.declared.value_types.ExprType.TheVariants.{Value as V}
use Rattle.formula_trees.specs.declared.value_types.ValueType.{ValueType}
use Rattle.formula_trees.specs.declared.value_types.ValueType.TheVariants as types
use Rattle.formula_trees.specs.Signatures.{function_takes, function_result}
use Rattle.formula_values.specs.declared.fault.ValueFault.{ValueFault}
use Rattle.formula_values.specs.declared.fault.ValueFault.TheVariants.{IndexOutOfRange}
use Rattle.formula_values.specs.declared.value.Value.{Value}
use Rattle.formula_values.specs.declared.value.Value.TheVariants.{Double, DoubleVec, Text, Timestamp, TimeInterval}
use Rattle.formula_values.specs.Functions.{flattened, total, average, greatest_item, least_item, sum_of_items, range_of_items, length_value, norm_value}
use Rattle.formula_values.specs.Functions.{rank_of, item_of_rank, percentile_of, percentile_value, floor_of, ceil_of, round_of, made_whole, item_or, item_at}
use Rattle.formula_values.specs.Functions.{val_value, time_read, time_value}
use Rattle.formula_values.specs.Members.{member_value}
use Rattle.formula_eval.specs.Evaluation.{at, call_at}
use Rattle.formula_laws.specs.ValueTypes.{type_of_value}
use Rattle.formula_laws.proofs.Operations.{IsOf, has_type, either_is, double_is, timestamp_is}

-- the result at a token, if it has a value
pub at_gave : (p : Span) (r : Result Value ValueFault) (v : Value) → at p r ≡ Ok v → r ≡ Ok v
at_gave p (Ok x) v e = cc
at_gave p (Err why) v e = cc

-- functions of doubles

average_is : (xs : List ℤ) → IsOf types.Double (average xs)
average_is [] = tt
average_is (x ∷ xs) = double_is _

greatest_is : (xs : List ℤ) → IsOf types.Double (greatest_item xs)
greatest_is [] = tt
greatest_is (x ∷ xs) = refl

least_is : (xs : List ℤ) → IsOf types.Double (least_item xs)
least_is [] = tt
least_is (x ∷ xs) = refl

range_is : (xs : List ℤ) → IsOf types.Double (range_of_items xs)
range_is [] = tt
range_is (x ∷ xs) = double_is _

length_is : (args : List Value) → IsOf types.Double (length_value args)
length_is (DoubleVec v ∷ []) = double_is _
length_is _ = refl

norm_is : (args : List Value) → IsOf types.Double (norm_value args)
norm_is (DoubleVec v ∷ []) = double_is _
norm_is _ = refl

percentile_of_is : (v : List ℤ) (p : ℤ) → IsOf types.Double (percentile_of v p)
percentile_of_is [] p = tt
percentile_of_is (x ∷ xs) p =
    either_is types.Double (int_lt p (pos 0) || int_lt (pos 100000000) p) (Err IndexOutOfRange)
    (Ok (Double (item_of_rank (x ∷ xs) (rank_of (unsigned_abs p) (length (x ∷ xs)))))) tt refl

percentile_is : (args : List Value) → IsOf types.Double (percentile_value args)
percentile_is (DoubleVec v ∷ Double p ∷ []) = percentile_of_is v p
percentile_is _ = refl

found_is : (o : Option ℤ) → IsOf types.Double (item_or o)
found_is None = tt
found_is (Some x) = refl

item_is : (v : List ℤ) (i : ℤ) → IsOf types.Double (item_at v i)
item_is v (pos index) = found_is (slice_get v index)
item_is v (negsuc below) = tt

val_is : (args : List Value) → IsOf types.Double (val_value args)
val_is (DoubleVec v ∷ Double i ∷ []) = item_is v (floor_of i)
val_is _ = refl

whole_is : (by : ℤ → ℤ) (args : List Value) → IsOf types.Double (made_whole by args)
whole_is by (Double a ∷ []) = double_is _
whole_is by _ = refl

-- a text that is read is a timestamp, or a fault
read_is : (r : _) → IsOf types.Timestamp (time_read r)
read_is (Ok t) = timestamp_is t
read_is (Err Memory) = tt
read_is (Err (Why why)) = grind arith

-- with arguments that it takes, the result of `time` is a timestamp
time_is : (now : ℕ) (args : List Value) → function_takes Time (map (λ a. V (type_of_value a)) args) ≡ true → IsOf types.Timestamp (time_value now args)
time_is now [] e = refl
time_is now (Text text ∷ []) e = search read_is
time_is now (Double a ∷ []) e = cc
time_is now (DoubleVec a ∷ []) e = cc
time_is now (Timestamp a ∷ []) e = cc
time_is now (TimeInterval a ∷ []) e = cc
time_is now (a ∷ b ∷ args) e = cc

-- the result of a token's function has the type that was found
given : (p : Span) (r : Result Value ValueFault) (c : ValueType) (v : Value) → IsOf c r → at p r ≡ Ok v → V c ≡ V (type_of_value v)
given p r c v h e = ap V (has_type c r v h (at_gave p r v e))

-- the result of a function has the type that was found
pub call_kept : (now : ℕ) (p : Span) (f : Function) (args : List Value) (v : Value) → function_takes f (map (λ a. V (type_of_value a)) args) ≡ true →
    call_at now p (Some f) args ≡ Ok v → function_result f ≡ V (type_of_value v)
call_kept now p Avg args v h e = given p (average (flattened args)) types.Double v (average_is (flattened args)) e
call_kept now p Max args v h e = given p (greatest_item (flattened args)) types.Double v (greatest_is (flattened args)) e
call_kept now p Min args v h e = given p (least_item (flattened args)) types.Double v (least_is (flattened args)) e
call_kept now p Sum args v h e = given p (sum_of_items (flattened args)) types.Double v (double_is (bounded (total (flattened args)))) e
call_kept now p Range args v h e = given p (range_of_items (flattened args)) types.Double v (range_is (flattened args)) e
call_kept now p Len args v h e = given p (length_value args) types.Double v (length_is args) e
call_kept now p Norm args v h e = given p (norm_value args) types.Double v (norm_is args) e
call_kept now p Percentile args v h e = given p (percentile_value args) types.Double v (percentile_is args) e
call_kept now p Val args v h e = given p (val_value args) types.Double v (val_is args) e
call_kept now p Ceil args v h e = given p (made_whole ceil_of args) types.Double v (whole_is ceil_of args) e
call_kept now p Floor args v h e = given p (made_whole floor_of args) types.Double v (whole_is floor_of args) e
call_kept now p Round args v h e = given p (made_whole round_of args) types.Double v (whole_is round_of args) e
call_kept now p Time args v h e = given p (time_value now args) types.Timestamp v (time_is now args h) e
call_kept now p Stop args v h e = cc

-- a member of any value is a double
pub member_kept : (m : Member) (a : Value) → V types.Double ≡ V (type_of_value (member_value m a))
member_kept m (Timestamp t) = refl
member_kept m _ = refl
