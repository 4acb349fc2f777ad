use Rattle.std.proofs.Common.{◌≡◌, ◌≤◌, ◌+◌, ◌-◌, length, drop}
use Rattle.std.specs.List.{prefix_len}
use Rattle.http_head.specs.Targets.{is_no_space}
use Rattle.http_head.proofs.targets.before_space.Given as goal

abbrev pub invariant-loop-at : goal.invariant-loop-at
invariant-loop-at l = record {
  within : l.at ≤ length l.buf;
  so_far : l.at + prefix_len is_no_space (drop l.at l.buf) ≡ prefix_len is_no_space l.buf;
}

abbrev pub decreases-loop-at : goal.decreases-loop-at
decreases-loop-at l = length l.buf - l.at
