use Rattle.std.proofs.Common.{◌≡◌, ◌*◌, drop}
use Rattle.std.specs.Prelude.{pos, neg_ℤ, ◌+ℤ◌, ◌≤ℤ◌}
use Rattle.formula_values.specs.Functions.{total}
use Rattle.formula_values.proofs.items.total.Given as goal

abbrev pub invariant-loop-item : goal.invariant-loop-item
invariant-loop-item l = record {
  whole : l.sum +ℤ total (drop l.item-index l.items) ≡ total l.items;
  low : neg_ℤ (pos (9223372036854775808 * l.item-index)) ≤ℤ l.sum;
  high : l.sum ≤ℤ pos (9223372036854775808 * l.item-index);
}
