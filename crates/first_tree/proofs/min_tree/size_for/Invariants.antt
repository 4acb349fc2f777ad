use Rattle.std.proofs.Common.{◌-◌}
use Rattle.first_tree.specs.Nodes.{IsPower}
use Rattle.first_tree.proofs.min_tree.size_for.Given as goal

abbrev pub invariant-loop-size : goal.invariant-loop-size
invariant-loop-size l = IsPower l.size

abbrev pub decreases-loop-size : goal.decreases-loop-size
decreases-loop-size l = l.wanted - l.size
