use Rattle.std.proofs.Common.{◌≡◌, length}
use Rattle.bt_rows.specs.Ranges.{has_control}
use Rattle.wire_bodies.proofs.reason.has_control.Given as goal

-- the bytes that are left have a control character exactly if the text has one
abbrev pub invariant-loop-byte : goal.invariant-loop-byte
invariant-loop-byte l = has_control l.left ≡ has_control l.text

abbrev pub decreases-loop-byte : goal.decreases-loop-byte
decreases-loop-byte l = length l.left
