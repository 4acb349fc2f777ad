use Rattle.std.proofs.Common.{◌≡◌, ◌+◌, ◌≤◌, min, drop}
use Rattle.formula_values.specs.Functions.{squares}
use Rattle.formula_values.proofs.norm.squares.Given as goal

abbrev pub invariant-loop-item : goal.invariant-loop-item
invariant-loop-item l = record {
  bound : l.sum ≤ 1000000000000000002000000000000000001;
  shown : min (l.sum + squares (drop l.item-index l.items)) 1000000000000000002000000000000000001 ≡ min (squares l.items) 1000000000000000002000000000000000001;
}
