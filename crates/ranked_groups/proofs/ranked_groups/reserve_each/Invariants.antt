use Rattle.std.proofs.Common.{◌≡◌, ℕ, ◌<◌, get_or, vec_len, vec_capacity}
use Rattle.ranked_groups.specs.Groups.{AreSame, Takes, no_group}
use Rattle.ranked_groups.proofs.ranked_groups.reserve_each.Given as goal

abbrev pub invariant-loop-number : goal.invariant-loop-number
invariant-loop-number l = record {
  same : AreSame l.fn.groups.items l.groups.items;
  len : vec_len l.groups ≡ vec_len l.fn.groups;
  capacity : vec_capacity l.groups ≡ vec_capacity l.fn.groups;
  room : (k : ℕ) → k < l.number → Takes l.additional (get_or l.groups.items k no_group);
}
