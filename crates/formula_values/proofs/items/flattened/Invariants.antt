use Rattle.std.proofs.Common.{◌≡◌, ◌++◌, drop}
use Rattle.formula_values.specs.Functions.{flattened}
use Rattle.formula_values.proofs.items.flattened.Given as goal

abbrev pub invariant-loop-value : goal.invariant-loop-value
invariant-loop-value l = l.items.items ++ flattened (drop l.value-index l.values) ≡ flattened l.values
