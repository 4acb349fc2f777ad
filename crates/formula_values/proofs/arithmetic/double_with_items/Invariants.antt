use Rattle.std.proofs.Common.{◌≡◌, drop}
use Rattle.formula_values.specs.Operators.{each}
use Rattle.formula_values.specs.Steps.{step_of}
use Rattle.formula_values.proofs.Eaches.{joined}
use Rattle.formula_values.proofs.arithmetic.double_with_items.Given as goal

abbrev pub invariant-loop-item : goal.invariant-loop-item
invariant-loop-item l = joined l.numbers.items (each (step_of l.step l.left) (drop l.item-index l.items)) ≡ each (step_of l.step l.left) l.items
