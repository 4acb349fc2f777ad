use Rattle.std.proofs.Common.{◌≡◌, length}
use Rattle.hash_index.specs.Chains.{AreNext, AreHeads}
use Rattle.hash_index.proofs.buckets.chain_all.Given as goal

abbrev pub invariant-loop-place : goal.invariant-loop-place
invariant-loop-place l = record {
  long : length l.nexts ≡ length l.hashes;
  count : length l.heads ≡ length l.fn.heads;
  next : AreNext (length l.heads) l.hashes l.nexts l.place;
  head : AreHeads l.hashes l.heads l.place;
}
