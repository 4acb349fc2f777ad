use Rattle.std.proofs.Common.{◌≡◌, true, take}
use Rattle.std.specs.List.{list_all}
use Rattle.formula_trees.specs.Signatures.{is_double}
use Rattle.formula_trees.proofs.signatures.are_doubles.Given as goal

abbrev pub invariant-loop-item : goal.invariant-loop-item
invariant-loop-item l = list_all is_double (take l.item-index l.items) ≡ true
