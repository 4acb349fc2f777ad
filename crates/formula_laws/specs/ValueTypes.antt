-- The types that values have.
use Rattle.std.specs.Prelude.{◌≡◌, ℕ, List, option_map}
use Rattle.formula_trees.specs.declared.value_types.ValueType.{ValueType}
use Rattle.formula_trees.specs.declared.value_types.ValueType.TheVariants as types
use Rattle.formula_types.specs.Scopes.{Variables}
use Rattle.formula_values.specs.declared.value.Value.{Value}
use Rattle.formula_values.specs.declared.value.Value.TheVariants.{Double, DoubleVec, Text, Timestamp, TimeInterval}
use Rattle.formula_eval.specs.declared.outcome.Variable.{Variable}
use Rattle.formula_eval.specs.Outcomes.{value_among}

-- the type of a value
abbrev pub type_of_value : Value → ValueType
type_of_value (Double n) = types.Double
type_of_value (DoubleVec items) = types.DoubleVec
type_of_value (Text bytes) = types.Text
type_of_value (Timestamp t) = types.Timestamp
type_of_value (TimeInterval t) = types.TimeInterval

-- the variables that have types are those that have values, and each value has its variable's type
abbrev pub Agree : Variables → List Variable → Type 0
Agree set variables = (name : List ℕ) → option_map type_of_value (value_among variables name) ≡ set name
