use Rattle.std.proofs.Common.{◌≡◌, ◌≤◌, ◌+◌, drop, if◌then◌else◌, count_by}
use Rattle.http_head.specs.Lines.{lines_ended, is_line_feed}
use Rattle.http_head.proofs.heads.count_lines.Given as goal

abbrev pub invariant-loop-byte : goal.invariant-loop-byte
invariant-loop-byte l = record {
  few : l.lines ≤ l.byte-index;
  so_far : l.lines + (if l.begun then count_by is_line_feed (drop l.byte-index l.buf) else lines_ended (drop l.byte-index l.buf)) ≡ lines_ended l.buf;
}
