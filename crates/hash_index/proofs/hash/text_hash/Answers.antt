use Rattle.std.proofs.Common.{refl, arith}
use Rattle.hash_index.specs.Hashes.{text_hash}
use Rattle.hash_index.proofs.hash.text_hash.Goals as goal

pub loop-byte-init : goal.loop-byte-init
unfolding text_hash
loop-byte-init c = record { left = refl; small = omega arith }
