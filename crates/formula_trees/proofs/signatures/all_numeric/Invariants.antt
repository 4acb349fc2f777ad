use Rattle.std.proofs.Common.{◌≡◌, true, take}
use Rattle.std.specs.List.{list_all}
use Rattle.formula_trees.specs.Signatures.{is_numeric}
use Rattle.formula_trees.proofs.signatures.all_numeric.Given as goal

abbrev pub invariant-loop-argument : goal.invariant-loop-argument
invariant-loop-argument l = list_all is_numeric (take l.argument-index l.arguments) ≡ true
