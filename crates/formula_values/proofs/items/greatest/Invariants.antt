use Rattle.std.proofs.Common.{◌≡◌, drop}
use Rattle.formula_values.specs.Functions.{greatest}
use Rattle.formula_values.proofs.items.greatest.Given as goal

abbrev pub invariant-loop-item : goal.invariant-loop-item
invariant-loop-item l = greatest l.highest (drop l.item-index l.others) ≡ greatest l.fn.first l.others
