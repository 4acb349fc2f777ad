-- What a formula has set, and the variables of its own: names with values, in the order of their first settings.
use Rattle.std.specs.Prelude.{ℕ, Bool, List, [], ◌∷◌, Option, Some, None, unwrap_or, if◌then◌else◌}
use Rattle.std.specs.Str.{bytes_eq}
use Rattle.bt_base.specs.Utf8.{utf8_text}
use Rattle.bt_rows.specs.Lists.{put_row}
use Rattle.bt_base.specs.declared.dealloc_option.Dealloc.{Dealloc}
use Rattle.bt_base.specs.declared.dealloc_option.Dealloc.TheVariants.{Requeue}
use Rattle.formula_values.specs.declared.value.Value.{Value}
use Rattle.formula_eval.specs.declared.outcome.Targets.{Targets}
use Rattle.formula_eval.specs.declared.outcome.Variable.{Variable}
use Rattle.formula_eval.specs.declared.outcome.Outcome.{Outcome}

-- a part of a formula's text as a text of its own. Names and strings are UTF-8; of variable parts it would be empty.
abbrev pub text_in : List ℕ → List ℕ
text_in bytes = unwrap_or (utf8_text bytes) []

-- the variable has this name
abbrev pub is_named : List ℕ → Variable → Bool
is_named name variable = bytes_eq variable.name name

-- the value of the variable of this name
abbrev pub value_among : List Variable → List ℕ → Option Value
value_among [] name = None
value_among (variable ∷ variables) name = if is_named name variable then Some variable.value else value_among variables name

-- the variables, of which this one has the value; it comes last if it was not set before
abbrev pub with_value : List Variable → List ℕ → Value → List Variable
with_value variables word known = put_row (is_named word) (record { name = word; value = known }) variables

-- before the first statement: the given targets, and `requeue`
abbrev pub at_start : Targets → Outcome
at_start start = record { targets = start; option = Requeue; variables = [] }

-- with this target of dedicated nodes
abbrev pub with_dedicated : Outcome → ℕ → Outcome
with_dedicated set target = record set { targets = record { dedicated = target; low = set.targets.low } }

-- with this target of low-priority nodes
abbrev pub with_low : Outcome → ℕ → Outcome
with_low set target = record set { targets = record { dedicated = set.targets.dedicated; low = target } }

-- with this node deallocation option
abbrev pub with_option : Outcome → Dealloc → Outcome
with_option set chosen = record set { option = chosen }

-- with this value of a variable
abbrev pub set_variable : Outcome → List ℕ → Value → Outcome
set_variable set name known = record set { variables = with_value set.variables name known }
