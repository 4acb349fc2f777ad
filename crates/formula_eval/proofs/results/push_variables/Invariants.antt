use Rattle.std.proofs.Common.{◌≡◌, ◌++◌, string_bytes, drop}
use Rattle.formula_eval.specs.Results.{variables_text}
use Rattle.formula_eval.proofs.results.push_variables.Given as goal

abbrev pub invariant-loop-variable : goal.invariant-loop-variable
invariant-loop-variable l = string_bytes l.text ++ variables_text (drop l.variable-index l.variables) ≡ string_bytes l.fn.text ++ variables_text l.variables
