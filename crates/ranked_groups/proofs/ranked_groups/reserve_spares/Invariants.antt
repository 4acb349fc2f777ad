use Rattle.std.proofs.Common.{◌-◌, vec_len}
use Rattle.std.specs.List.{All}
use Rattle.ranked_groups.specs.Groups.{IsEmpty, Takes}
use Rattle.ranked_groups.proofs.ranked_groups.reserve_spares.Given as goal

abbrev pub invariant-loop-alloc : goal.invariant-loop-alloc
invariant-loop-alloc l = record {
  empty : All IsEmpty l.spares.items;
  wide : All (Takes l.additional) l.spares.items;
}

abbrev pub decreases-loop-alloc : goal.decreases-loop-alloc
decreases-loop-alloc l = l.additional - vec_len l.spares
