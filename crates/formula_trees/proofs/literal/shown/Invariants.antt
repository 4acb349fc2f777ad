use Rattle.std.proofs.Common.{◌≡◌, ◌≤◌, min, drop}
use Rattle.bt_base.specs.Ids.{decimal_from}
use Rattle.formula_trees.proofs.literal.shown.Given as goal

abbrev pub invariant-loop-digit : goal.invariant-loop-digit
invariant-loop-digit l = record {
  in_range : l.number ≤ 1000000000000000001;
  shown : min (decimal_from l.fn.before l.digits) 1000000000000000001 ≡ min (decimal_from l.number (drop l.digit-index l.digits)) 1000000000000000001;
}
