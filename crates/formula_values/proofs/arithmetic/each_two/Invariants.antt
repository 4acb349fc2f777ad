use Rattle.std.proofs.Common.{◌≡◌, drop}
use Rattle.formula_values.specs.Operators.{each_two}
use Rattle.formula_values.specs.Steps.{step_of}
use Rattle.formula_values.proofs.Eaches.{joined}
use Rattle.formula_values.proofs.arithmetic.each_two.Given as goal

abbrev pub invariant-loop-i : goal.invariant-loop-i
invariant-loop-i l = joined l.numbers.items (each_two (step_of l.step) (drop l.i l.lefts) (drop l.i l.rights)) ≡ each_two (step_of l.step) l.lefts l.rights
