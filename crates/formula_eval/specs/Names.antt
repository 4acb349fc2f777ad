-- The values of names.
use Rattle.std.specs.Prelude.{ℕ, pos, List, Option, Some, None, Result, Ok}
use Rattle.bt_base.specs.declared.dealloc_option.Dealloc.{Dealloc}
use Rattle.bt_base.specs.declared.pool_metric.Metric.{Metric}
use Rattle.formula_trees.specs.declared.names.Setting.{Setting}
use Rattle.formula_trees.specs.declared.names.Setting.TheVariants.{DedicatedNodes, LowPriorityNodes, Deallocation}
use Rattle.formula_trees.specs.Names.{metric_named, interval_named, setting_named}
use Rattle.formula_values.specs.declared.fault.ValueFault.{ValueFault}
use Rattle.formula_values.specs.declared.value.Value.{Value}
use Rattle.formula_values.specs.declared.value.Value.TheVariants.{Text}
use Rattle.formula_values.specs.Values.{whole_value, interval_value, no_value}
use Rattle.formula_metrics.specs.declared.metrics.Metrics.{Metrics}
use Rattle.formula_metrics.specs.Parts.{part_of}
use Rattle.formula_metrics.specs.Methods.{current_value}
use Rattle.formula_eval.specs.declared.outcome.Outcome.{Outcome}
use Rattle.bt_base.specs.DeallocOptions.{option_word, option_named}
use Rattle.formula_eval.specs.Outcomes.{value_among}

-- what is set so far
abbrev pub setting_value : Outcome → Setting → Value
setting_value set DedicatedNodes = whole_value set.targets.dedicated
setting_value set LowPriorityNodes = whole_value set.targets.low
setting_value set Deallocation = Text (option_word set.option)

-- a metric alone is its value now
abbrev pub metric_or : Metrics → Option Metric → Result Value ValueFault → Result Value ValueFault
metric_or metrics (Some metric) other = current_value (part_of metrics metric)
metric_or metrics None other = other

-- a constant timeinterval, in units of 100 ns
abbrev pub interval_or : Option ℕ → Result Value ValueFault → Result Value ValueFault
interval_or (Some units) other = interval_value (pos units)
interval_or None other = other

-- a constant word, the string of its own name
abbrev pub word_or : Option Dealloc → Result Value ValueFault → Result Value ValueFault
word_or (Some chosen) other = Ok (Text (option_word chosen))
word_or None other = other

-- what a setting is so far
abbrev pub setting_or : Outcome → Option Setting → Result Value ValueFault → Result Value ValueFault
setting_or set (Some setting) other = Ok (setting_value set setting)
setting_or set None other = other

-- the value of a variable
abbrev pub variable_or : Option Value → Result Value ValueFault → Result Value ValueFault
variable_or (Some known) other = Ok known
variable_or None other = other

-- the value of a name that is not a metric's
abbrev pub constant_value : Outcome → List ℕ → Result Value ValueFault
constant_value set name =
    interval_or (interval_named name) (word_or (option_named name)
    (setting_or set (setting_named name) (variable_or (value_among set.variables name) no_value)))

-- the value of a name: of a metric, a constant, a setting or a variable
abbrev pub name_value : Metrics → Outcome → List ℕ → Result Value ValueFault
name_value metrics set name = metric_or metrics (metric_named name) (constant_value set name)
