use Rattle.std.proofs.Common.{◌≡◌, ◌+◌, slice_index, sum_by}
use Rattle.text_chains.specs.Chains.{places_of}
use Rattle.base_tests.proofs.text_chains_tests.sum_at.Given as goal

abbrev pub invariant-loop-place : goal.invariant-loop-place
invariant-loop-place l = record {
  next : (goal.iterator-loop-place).can_next l.place-iterator;
  ends : (goal.iterator-loop-place).is_finite l.place-iterator;
  sum : l.sum + sum_by (slice_index l.values) l.place-iterator ≡ sum_by (slice_index l.values) (places_of l.fn.chains l.fn.text);
}
