use Rattle.std.proofs.Common.{◌≡◌, ◌+◌, ◌≤◌, ◌-◌, length, drop}
use Rattle.first_tree.specs.Nodes.{IsTreeFrom}
use Rattle.first_tree.proofs.nodes.rebuild.Given as goal

abbrev pub invariant-loop-at : goal.invariant-loop-at
invariant-loop-at l = record {
  size : length l.nodes ≡ l.size + l.size;
  within : l.at ≤ l.size;
  above : IsTreeFrom l.nodes l.size l.at;
  leaves : drop l.size l.nodes ≡ drop l.size l.fn.nodes;
}

abbrev pub decreases-loop-at : goal.decreases-loop-at
decreases-loop-at l = l.at - 1
