-- What a formula asks of a metric, at a moment in milliseconds since 1970.
use Rattle.std.specs.Prelude.{ℕ, ◌*◌, ℤ, pos, negsuc, ◌-ℤ◌, int_lt, List, [], ◌∷◌, length, Option, Some, None, Result, Ok, Err, if◌then◌else◌}
use Rattle.bt_base.specs.Numbers.{cut}
use Rattle.bt_samples.specs.declared.history.Sample.{Sample}
use Rattle.bt_samples.specs.Histories.{last_values, values_within, percent_within, oldest}
use Rattle.formula_trees.specs.declared.names.Method.{Method}
use Rattle.formula_trees.specs.declared.names.Method.TheVariants.{GetSample, GetSamplePercent, GetSamplePeriod, Count, HistoryBeginTime}
use Rattle.formula_values.specs.declared.fault.ValueFault.{ValueFault}
use Rattle.formula_values.specs.declared.fault.ValueFault.TheVariants.{EmptyVector, IndexOutOfRange, NotEnoughSamples}
use Rattle.formula_values.specs.declared.value.Value.{Value}
use Rattle.formula_values.specs.declared.value.Value.TheVariants.{Double, DoubleVec, Timestamp, TimeInterval}
use Rattle.formula_values.specs.Values.{whole_value, timestamp_value, no_value}
use Rattle.formula_values.specs.Functions.{floor_of, less_of, greater_of}
use Rattle.formula_metrics.specs.declared.methods.TheConstants.{PERIOD}
use Rattle.formula_metrics.specs.declared.metrics.MetricPart.{MetricPart}

-- a metric alone is its value now, if it has one
abbrev pub value_or_none : Option ℤ → Result Value ValueFault
value_or_none None = Err EmptyVector
value_or_none (Some number) = Ok (Double number)

-- the value now
abbrev pub current_value : MetricPart → Result Value ValueFault
current_value part = value_or_none part.current

-- now, in units of 100 ns since 1970
abbrev pub present : ℕ → ℤ
present now = pos (10000 * now)

-- the time of an argument, in units of 100 ns since 1970: a timestamp, or a timeinterval that is counted back from now. It may be before
-- 1970 or after the year 9999. Other values have no time in any formula; here theirs is now.
abbrev pub time_of : ℕ → Value → ℤ
time_of now (Timestamp t) = t
time_of now (TimeInterval t) = present now -ℤ t
time_of now _ = present now

-- a range of labels in milliseconds, both ends included; or no label
abbrev pub Labels : Type 0
Labels = Option (ℕ × ℕ)

-- a start before 1970 is the beginning of 1970
abbrev pub raised : ℤ → ℕ
raised (pos ms) = ms
raised (negsuc ms) = 0

-- the labels from a start to an end; none if the end is before 1970
abbrev pub labels_from : ℕ → ℤ → Labels
labels_from from (pos to) = Some (from, to)
labels_from from (negsuc to) = None

-- the labels between two times, of which the lesser is the start; both are cut to milliseconds, toward zero
abbrev pub labels_between : ℤ → ℤ → Labels
labels_between a b = labels_from (raised (cut (less_of a b) (pos 10000))) (cut (greater_of a b) (pos 10000))

-- the values of the samples with such labels, newest first
abbrev pub values_at : List Sample → Labels → List ℤ
values_at samples None = []
values_at samples (Some labels) = values_within samples labels.0 labels.1

-- the percentage of such labels that have a sample
abbrev pub percent_at : List Sample → Labels → ℤ
percent_at samples None = pos 0
percent_at samples (Some labels) = percent_within samples labels.0 labels.1

-- the values of the newest samples, at most `count`
abbrev pub newest_values : List Sample → ℤ → Result Value ValueFault
newest_values samples (pos count) = Ok (DoubleVec (last_values samples count))
newest_values samples (negsuc below) = Err IndexOutOfRange

-- values, if the percentage of samples that exist is not below the one that is asked for
abbrev pub if_enough : ℤ → ℤ → List ℤ → Result Value ValueFault
if_enough have want values = if int_lt have want then Err (NotEnoughSamples have want) else Ok (DoubleVec values)

-- the samples between two times, with such a percentage
abbrev pub enough_at : List Sample → Labels → ℤ → Result Value ValueFault
enough_at samples labels want = if_enough (percent_at samples labels) want (values_at samples labels)

-- the samples between a time and the other end, or to now if the second argument is a percentage
abbrev pub samples_to : ℕ → List Sample → ℤ → Value → Result Value ValueFault
samples_to now samples a (Double want) = enough_at samples (labels_between a (present now)) want
samples_to now samples a b = Ok (DoubleVec (values_at samples (labels_between a (time_of now b))))

-- the newest samples, if the argument is their number; else those from a time to now
abbrev pub samples_since : ℕ → List Sample → Value → Result Value ValueFault
samples_since now samples (Double count) = newest_values samples (floor_of count)
samples_since now samples a = Ok (DoubleVec (values_at samples (labels_between (time_of now a) (present now))))

-- `GetSample`
abbrev pub sample_value : ℕ → List Sample → List Value → Result Value ValueFault
sample_value now samples (a ∷ []) = samples_since now samples a
sample_value now samples (a ∷ b ∷ []) = samples_to now samples (time_of now a) b
sample_value now samples (a ∷ b ∷ Double want ∷ []) = enough_at samples (labels_between (time_of now a) (time_of now b)) want
sample_value now samples _ = no_value

-- `GetSamplePercent`
abbrev pub percent_value : ℕ → List Sample → List Value → Result Value ValueFault
percent_value now samples (a ∷ []) = Ok (Double (percent_at samples (labels_between (time_of now a) (present now))))
percent_value now samples (a ∷ b ∷ []) = Ok (Double (percent_at samples (labels_between (time_of now a) (time_of now b))))
percent_value now samples _ = no_value

-- `HistoryBeginTime`: the label of the oldest sample
abbrev pub begin_value : Option ℕ → Result Value ValueFault
begin_value None = Err EmptyVector
begin_value (Some label) = timestamp_value (pos (10000 * label))

-- the result of a method of a metric
abbrev pub method_value : MetricPart → Method → List Value → ℕ → Result Value ValueFault
method_value part GetSample args now = sample_value now part.history args
method_value part GetSamplePercent args now = percent_value now part.history args
method_value part GetSamplePeriod args now = Ok (TimeInterval PERIOD)
method_value part Count args now = Ok (whole_value (length part.history))
method_value part HistoryBeginTime args now = begin_value (oldest part.history)
