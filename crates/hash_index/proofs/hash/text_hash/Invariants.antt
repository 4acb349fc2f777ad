use Rattle.std.proofs.Common.{◌≡◌, ◌<◌, drop}
use Rattle.hash_index.specs.Hashes.{hash_from, text_hash}
use Rattle.hash_index.proofs.hash.text_hash.Given as goal

abbrev pub invariant-loop-byte : goal.invariant-loop-byte
invariant-loop-byte l = record {
  left : hash_from l.hash (drop l.byte-index l.text) ≡ text_hash l.text;
  small : l.hash < 4294967296;
}
