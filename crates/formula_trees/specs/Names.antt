-- The names that a formula has before it sets one. Bytes are numbers.
use Rattle.std.specs.Prelude.{ℕ, Bool, ◌||◌, List, Option, Some, None, codes, is_some, option_map, if◌then◌else◌}
use Rattle.std.specs.Str.{bytes_eq}
use Rattle.bt_base.specs.DeallocOptions.{option_named}
use Rattle.bt_base.specs.declared.pool_metric.Metric.{Metric}
use Rattle.bt_base.specs.declared.pool_metric.Metric.TheVariants as metrics
use Rattle.formula_trees.specs.declared.names.Setting.{Setting}
use Rattle.formula_trees.specs.declared.names.Setting.TheVariants.{DedicatedNodes, LowPriorityNodes, Deallocation}
use Rattle.formula_trees.specs.declared.names.Function.{Function}
use Rattle.formula_trees.specs.declared.names.Function.TheVariants as functions
use Rattle.formula_trees.specs.declared.names.Method.{Method}
use Rattle.formula_trees.specs.declared.names.Method.TheVariants as methods
use Rattle.formula_trees.specs.declared.names.Member.{Member}
use Rattle.formula_trees.specs.declared.names.Member.TheVariants as members
use Rattle.formula_trees.specs.declared.value_types.ValueType.{ValueType}
use Rattle.formula_trees.specs.declared.value_types.ValueType.TheVariants.{Double, Text, TimeInterval}

-- the metric of this name
unfoldable pub metric_named : List ℕ → Option Metric
metric_named name =
    if bytes_eq name (codes "$CPUPercent") then Some metrics.CpuPercent
    else if bytes_eq name (codes "$ActiveTasks") then Some metrics.ActiveTasks
    else if bytes_eq name (codes "$RunningTasks") then Some metrics.RunningTasks
    else if bytes_eq name (codes "$PendingTasks") then Some metrics.PendingTasks
    else if bytes_eq name (codes "$SucceededTasks") then Some metrics.SucceededTasks
    else if bytes_eq name (codes "$FailedTasks") then Some metrics.FailedTasks
    else if bytes_eq name (codes "$TaskSlotsPerNode") then Some metrics.TaskSlotsPerNode
    else if bytes_eq name (codes "$CurrentDedicatedNodes") then Some metrics.CurrentDedicatedNodes
    else if bytes_eq name (codes "$CurrentLowPriorityNodes") then Some metrics.CurrentLowPriorityNodes
    else if bytes_eq name (codes "$PreemptedNodeCount") then Some metrics.PreemptedNodeCount
    else None

-- the constant of this name: a timeinterval, in units of 100 ns
unfoldable pub interval_named : List ℕ → Option ℕ
interval_named name =
    if bytes_eq name (codes "TimeInterval_Zero") then Some 0
    else if bytes_eq name (codes "TimeInterval_100ns") then Some 1
    else if bytes_eq name (codes "TimeInterval_Microsecond") then Some 10
    else if bytes_eq name (codes "TimeInterval_Millisecond") then Some 10000
    else if bytes_eq name (codes "TimeInterval_Second") then Some 10000000
    else if bytes_eq name (codes "TimeInterval_Minute") then Some 600000000
    else if bytes_eq name (codes "TimeInterval_Hour") then Some 36000000000
    else if bytes_eq name (codes "TimeInterval_Day") then Some 864000000000
    else if bytes_eq name (codes "TimeInterval_Week") then Some 6048000000000
    else if bytes_eq name (codes "TimeInterval_Year") then Some 315360000000000
    else None

-- the words for what becomes of the tasks of a node that leaves: each is a constant, the string of its own name
unfoldable pub is_option_word : List ℕ → Bool
is_option_word name = is_some (option_named name)

-- what a formula sets of its pool; it is set from the start
unfoldable pub setting_named : List ℕ → Option Setting
setting_named name =
    if bytes_eq name (codes "$TargetDedicatedNodes") then Some DedicatedNodes
    else if bytes_eq name (codes "$TargetLowPriorityNodes") then Some LowPriorityNodes
    else if bytes_eq name (codes "$NodeDeallocationOption") then Some Deallocation
    else None

-- the function of this name
unfoldable pub function_named : List ℕ → Option Function
function_named name =
    if bytes_eq name (codes "avg") then Some functions.Avg
    else if bytes_eq name (codes "max") then Some functions.Max
    else if bytes_eq name (codes "min") then Some functions.Min
    else if bytes_eq name (codes "sum") then Some functions.Sum
    else if bytes_eq name (codes "range") then Some functions.Range
    else if bytes_eq name (codes "len") then Some functions.Len
    else if bytes_eq name (codes "norm") then Some functions.Norm
    else if bytes_eq name (codes "percentile") then Some functions.Percentile
    else if bytes_eq name (codes "val") then Some functions.Val
    else if bytes_eq name (codes "ceil") then Some functions.Ceil
    else if bytes_eq name (codes "floor") then Some functions.Floor
    else if bytes_eq name (codes "round") then Some functions.Round
    else if bytes_eq name (codes "time") then Some functions.Time
    else if bytes_eq name (codes "stop") then Some functions.Stop
    else None

-- the method of a metric of this name
unfoldable pub method_named : List ℕ → Option Method
method_named name =
    if bytes_eq name (codes "GetSample") then Some methods.GetSample
    else if bytes_eq name (codes "GetSamplePercent") then Some methods.GetSamplePercent
    else if bytes_eq name (codes "GetSamplePeriod") then Some methods.GetSamplePeriod
    else if bytes_eq name (codes "Count") then Some methods.Count
    else if bytes_eq name (codes "HistoryBeginTime") then Some methods.HistoryBeginTime
    else None

-- the member of a timestamp of this name
unfoldable pub member_named : List ℕ → Option Member
member_named name =
    if bytes_eq name (codes "year") then Some members.Year
    else if bytes_eq name (codes "month") then Some members.Month
    else if bytes_eq name (codes "day") then Some members.Day
    else if bytes_eq name (codes "weekday") then Some members.Weekday
    else if bytes_eq name (codes "hour") then Some members.Hour
    else if bytes_eq name (codes "minute") then Some members.Minute
    else if bytes_eq name (codes "second") then Some members.Second
    else None

-- the type of a setting
abbrev pub setting_type : Setting → ValueType
setting_type DedicatedNodes = Double
setting_type LowPriorityNodes = Double
setting_type Deallocation = Text

-- the type of a name that is not a variable of the formula's own. A metric alone is its value now, a double.
unfoldable pub fixed_type : List ℕ → Option ValueType
fixed_type name =
    if is_some (metric_named name) then Some Double
    else if is_some (interval_named name) then Some TimeInterval
    else if is_option_word name then Some Text
    else option_map setting_type (setting_named name)

-- metrics, constants and functions cannot be assigned
unfoldable pub is_read_only : List ℕ → Bool
is_read_only name =
    is_some (metric_named name)
    || is_some (interval_named name)
    || is_option_word name
    || is_some (function_named name)
