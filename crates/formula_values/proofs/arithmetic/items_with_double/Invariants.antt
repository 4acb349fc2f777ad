use Rattle.std.proofs.Common.{◌≡◌, drop}
use Rattle.formula_values.specs.Operators.{each}
use Rattle.formula_values.specs.Steps.{step_of}
use Rattle.formula_values.proofs.Eaches.{joined}
use Rattle.formula_values.proofs.arithmetic.items_with_double.Given as goal

abbrev pub invariant-loop-item : goal.invariant-loop-item
invariant-loop-item l = joined l.numbers.items (each (λ x. step_of l.step x l.right) (drop l.item-index l.items)) ≡ each (λ x. step_of l.step x l.right) l.items
