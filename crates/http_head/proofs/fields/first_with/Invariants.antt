use Rattle.std.proofs.Common.{◌≡◌, drop, map, find}
use Rattle.httparse.specs.Spans.{header_bytes}
use Rattle.http_head.specs.Fields.{is_named}
use Rattle.http_head.proofs.fields.first_with.Given as goal

abbrev pub invariant-loop-field : goal.invariant-loop-field
invariant-loop-field l = find (is_named l.name) (map (header_bytes l.buf) (drop l.field-index l.fields)) ≡ find (is_named l.name) (map (header_bytes l.buf) l.fields)
