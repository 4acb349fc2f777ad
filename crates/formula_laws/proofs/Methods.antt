-- Methods of metrics keep types: their results have the types that were found.
use Rattle.std.proofs.Common.{◌≡◌, ℕ, ℤ, Bool, true, false, ◌&&◌, List, [], ◌∷◌, map, Option, Some, None, Ok, refl, ap}
use Rattle.std.specs.Prelude.{◌*◌, pos, negsuc, int_lt}
use Rattle.formula_trees.specs.declared.names.Method.{Method}
use Rattle.formula_trees.specs.declared.names.Method.TheVariants.{GetSample, GetSamplePercent, GetSamplePeriod, Count, HistoryBeginTime}
use Rattle.formula_trees.specs.declared.value_types.ExprType.TheVariants.{Value as V}
use Rattle.formula_trees.specs.declared.value_types.ValueType.TheVariants as types
use Rattle.formula_trees.specs.Signatures.{method_takes, method_result}
use Rattle.formula_values.specs.declared.value.Value.{Value}
use Rattle.formula_values.specs.declared.value.Value.TheVariants.{Double, DoubleVec}
use Rattle.formula_values.specs.Functions.{floor_of}
use Rattle.formula_metrics.specs.declared.metrics.MetricPart.{MetricPart}
use Rattle.formula_metrics.specs.Methods.{present, time_of, labels_between, values_at, percent_at, newest_values, if_enough, samples_to, samples_since}
use Rattle.formula_metrics.specs.Methods.{sample_value, percent_value, begin_value, method_value}
use Rattle.formula_laws.specs.ValueTypes.{type_of_value}
use Rattle.formula_laws.proofs.Operations.{IsOf, has_type, either_is, timestamp_is}

-- the result of `GetSample` is a vector

newest_is : (part : MetricPart) (count : ℤ) → IsOf types.DoubleVec (newest_values part.history count)
newest_is part (pos count) = refl
newest_is part (negsuc below) = tt

enough_is : (have want : ℤ) (values : List ℤ) → IsOf types.DoubleVec (if_enough have want values)
enough_is have want values = either_is types.DoubleVec (int_lt have want) _ (Ok (DoubleVec values)) tt refl

to_is : (now : ℕ) (part : MetricPart) (a : ℤ) (b : Value) → IsOf types.DoubleVec (samples_to now part.history a b)
to_is now part a (Double want) =
    enough_is (percent_at part.history (labels_between a (present now))) want (values_at part.history (labels_between a (present now)))
to_is now part a _ = refl

since_is : (now : ℕ) (part : MetricPart) (a : Value) → IsOf types.DoubleVec (samples_since now part.history a)
since_is now part (Double count) = newest_is part (floor_of count)
since_is now part _ = refl

-- a third argument that is not a double is not taken
no_third : (a b : Bool) → (a && (b && false)) ≡ true → ⊥
no_third true true e = cc
no_third true false e = cc
no_third false b e = cc

sample_is : (now : ℕ) (part : MetricPart) (args : List Value) → method_takes GetSample (map (λ a. V (type_of_value a)) args) ≡ true →
    IsOf types.DoubleVec (sample_value now part.history args)
sample_is now part [] e = cc
sample_is now part (a ∷ []) e = since_is now part a
sample_is now part (a ∷ b ∷ []) e = to_is now part (time_of now a) b
sample_is now part (a ∷ b ∷ Double want ∷ []) e =
    enough_is (percent_at part.history (labels_between (time_of now a) (time_of now b))) want
    (values_at part.history (labels_between (time_of now a) (time_of now b)))
sample_is now part (a ∷ b ∷ c ∷ d ∷ args) e = cc
sample_is now part (a ∷ b ∷ _ ∷ []) e = absurd (no_third _ _ e)

percent_is : (now : ℕ) (part : MetricPart) (args : List Value) → method_takes GetSamplePercent (map (λ a. V (type_of_value a)) args) ≡ true →
    IsOf types.Double (percent_value now part.history args)
percent_is now part [] e = cc
percent_is now part (a ∷ []) e = refl
percent_is now part (a ∷ b ∷ []) e = refl
percent_is now part (a ∷ b ∷ c ∷ args) e = cc

begin_is : (oldest : Option ℕ) → IsOf types.Timestamp (begin_value oldest)
begin_is None = tt
begin_is (Some label) = timestamp_is (pos (10000 * label))

history_is : (part : MetricPart) (args : List Value) (now : ℕ) → IsOf types.Timestamp (method_value part HistoryBeginTime args now)
history_is part args now = search begin_is

-- the result of a method of a metric has the type that was found
pub method_kept : (part : MetricPart) (m : Method) (args : List Value) (now : ℕ) (v : Value) → method_takes m (map (λ a. V (type_of_value a)) args) ≡ true →
    method_value part m args now ≡ Ok v → method_result m ≡ V (type_of_value v)
method_kept part GetSample args now v h e = ap V (has_type types.DoubleVec (sample_value now part.history args) v (sample_is now part args h) e)
method_kept part GetSamplePercent args now v h e = ap V (has_type types.Double (percent_value now part.history args) v (percent_is now part args h) e)
method_kept part GetSamplePeriod args now v h e = ap V (has_type types.TimeInterval (method_value part GetSamplePeriod args now) v refl e)
method_kept part Count args now v h e = ap V (has_type types.Double (method_value part Count args now) v refl e)
method_kept part HistoryBeginTime args now v h e = ap V (has_type types.Timestamp (method_value part HistoryBeginTime args now) v (history_is part args now) e)
