use Rattle.std.proofs.Common.{◌≡◌, drop}
use Rattle.formula_values.specs.Functions.{least}
use Rattle.formula_values.proofs.items.least.Given as goal

abbrev pub invariant-loop-item : goal.invariant-loop-item
invariant-loop-item l = least l.lowest (drop l.item-index l.others) ≡ least l.fn.first l.others
