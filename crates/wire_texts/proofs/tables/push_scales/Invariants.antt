use Rattle.std.proofs.Common.{◌≡◌, ◌++◌, string_bytes}
use Rattle.std.specs.Prelude.{flat_map}
use Rattle.wire_texts.specs.Rows.{scale_line}
use Rattle.wire_texts.proofs.tables.push_scales.Given as goal

abbrev pub invariant-loop-scale : goal.invariant-loop-scale
invariant-loop-scale l = string_bytes l.out ++ flat_map scale_line l.scale-iterator ≡ string_bytes l.fn.out ++ flat_map scale_line l.tables.state.scales
