use Rattle.std.proofs.Common.{◌≡◌}
use Rattle.hash_index.specs.Hashes.{places_below}
use Rattle.hash_index.specs.Chains.{IsOnChain}
use Rattle.hash_index.proofs.places.PlacesIterator.next.Given as goal

abbrev pub invariant-loop-place : goal.invariant-loop-place
invariant-loop-place l = record {
  hashes : l.self-inside.hashes.now ≡ l.initial.self-inside.hashes.now;
  hash : l.self-inside.hash ≡ l.initial.self-inside.hash;
  left : places_below l.self-inside.number l.self-inside.hash l.self-inside.hashes.now ≡ places_below l.initial.self-inside.number l.initial.self-inside.hash l.initial.self-inside.hashes.now;
  chain : IsOnChain l.self-inside.count l.self-inside.hashes.now l.self-inside.nexts.now l.self-inside.hash l.self-inside.number;
}

abbrev pub decreases-loop-place : goal.decreases-loop-place
decreases-loop-place l = l.self-inside.number
