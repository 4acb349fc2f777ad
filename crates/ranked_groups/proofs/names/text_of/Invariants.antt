use Rattle.std.proofs.Common.{◌≡◌, take, length}
use Rattle.ranked_groups.proofs.names.text_of.Given as goal

abbrev pub invariant-loop-byte : goal.invariant-loop-byte
invariant-loop-byte l = record {
  text : l.text ≡ take l.byte-index l.bytes;
  long : length l.text ≡ l.byte-index;
}
