use Rattle.std.proofs.Common.{◌≡◌, ◌+◌, ◌++◌, length, take}
use Rattle.run_index.proofs.attempt_text.AttemptText.push_all.Given as goal

abbrev pub invariant-loop-byte : goal.invariant-loop-byte
invariant-loop-byte l = record {
  text : l.self ≡ l.fn.self ++ take l.byte-index l.text;
  long : length l.self ≡ length l.fn.self + l.byte-index;
}
