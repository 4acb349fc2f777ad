use Rattle.std.proofs.Common.{◌≡◌, ◌++◌, take, drop}
use Rattle.dependency_counts.specs.Counts.{with_satisfied}
use Rattle.dependency_counts.proofs.counts.set_satisfied.Given as goal

-- the tasks so far are changed, and the others are not
abbrev pub invariant-loop-live : goal.invariant-loop-live
invariant-loop-live g l = l.live-items ≡ with_satisfied (take l.live-index l.initial.live-items) l.key l.yes ++ drop l.live-index l.initial.live-items
