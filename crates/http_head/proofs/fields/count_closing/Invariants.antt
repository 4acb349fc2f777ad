use Rattle.std.proofs.Common.{◌≡◌, ◌≤◌, ◌+◌, drop, map, count_by}
use Rattle.httparse.specs.Spans.{header_bytes}
use Rattle.http_head.specs.Fields.{is_close}
use Rattle.http_head.proofs.fields.count_closing.Given as goal

abbrev pub invariant-loop-field : goal.invariant-loop-field
invariant-loop-field l = record {
  few : l.count ≤ l.field-index;
  so_far : l.count + count_by is_close (map (header_bytes l.buf) (drop l.field-index l.fields)) ≡ count_by is_close (map (header_bytes l.buf) l.fields);
}
