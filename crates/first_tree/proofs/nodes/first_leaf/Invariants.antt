use Rattle.std.proofs.Common.{◌≡◌, ℕ, ◌+◌, ◌*◌, ◌-◌, ◌≤◌, ◌<◌, slice_index}
use Rattle.first_tree.specs.Nodes.{IsPower}
use Rattle.first_tree.proofs.nodes.first_leaf.Given as goal

abbrev pub invariant-loop-at : goal.invariant-loop-at
invariant-loop-at l = record {
  one : 1 ≤ l.at;
  place : l.at * l.width ≡ l.size + l.first;
  power : IsPower l.width;
  fits : l.first + l.width ≤ l.size;
  passes : slice_index l.nodes l.at ≤ l.bound;
  before : (i : ℕ) → i < l.first → l.bound < slice_index l.nodes (l.size + i);
}

abbrev pub decreases-loop-at : goal.decreases-loop-at
decreases-loop-at l = l.size - l.at
