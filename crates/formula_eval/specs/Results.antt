-- The text of results, and that of a fault.
use Rattle.std.specs.Prelude.{ℕ, ◌==◌, Bool, false, codes, List, [], ◌∷◌, ◌++◌, if◌then◌else◌}
use Rattle.std.specs.Fmt.{decimal}
use Rattle.formula_values.specs.Texts.{value_text}
use Rattle.formula_eval.specs.declared.outcome.Variable.{Variable}
use Rattle.formula_eval.specs.declared.outcome.Outcome.{Outcome}
use Rattle.bt_base.specs.DeallocOptions.{option_word}

-- `error`, a fault's name and its place
unfoldable pub error_text : List ℕ → ℕ → List ℕ
error_text name place = codes "error " ++ name ++ codes " " ++ decimal place

-- a text begins with `$`
abbrev pub has_dollar : List ℕ → Bool
has_dollar [] = false
has_dollar (b ∷ name) = b == 36

-- a name, with a `$` before it if it has none
abbrev pub shown_name : List ℕ → List ℕ
shown_name name = if has_dollar name then name else 36 ∷ name

-- a variable: `;`, its name, `=` and its value
abbrev pub variable_text : Variable → List ℕ
variable_text variable = 59 ∷ shown_name variable.name ++ 61 ∷ value_text variable.value

-- the variables, one after the variable
abbrev pub variables_text : List Variable → List ℕ
variables_text [] = []
variables_text (variable ∷ variables) = variable_text variable ++ variables_text variables

-- the three settings
unfoldable pub settings_text : ℕ → ℕ → List ℕ → List ℕ
settings_text dedicated low word =
    codes "$TargetDedicatedNodes=" ++ (decimal dedicated
    ++ (codes ";$TargetLowPriorityNodes=" ++ (decimal low
    ++ (codes ";$NodeDeallocationOption=" ++ word))))

-- the settings, then the variables in the order of their first settings
abbrev pub results_text : Outcome → List ℕ
results_text outcome =
    settings_text outcome.targets.dedicated outcome.targets.low (option_word outcome.option) ++ variables_text outcome.variables
