use Rattle.std.proofs.Common.{◌≡◌, ◌+◌, ◌++◌, length, take}
use Rattle.bt_base.specs.Ids.{lowered}
use Rattle.kept_table.proofs.key_text.KeyText.push_lowered.Given as goal

abbrev pub invariant-loop-byte : goal.invariant-loop-byte
invariant-loop-byte l = record {
  text : l.self ≡ l.fn.self ++ lowered (take l.byte-index l.text);
  long : length l.self ≡ length l.fn.self + l.byte-index;
}
