use Rattle.std.proofs.Common.{◌≡◌, ◌++◌, string_bytes}
use Rattle.std.specs.Prelude.{flat_map}
use Rattle.wire_texts.specs.Rows.{prep_line}
use Rattle.wire_texts.proofs.tables.push_preps.Given as goal

abbrev pub invariant-loop-prep : goal.invariant-loop-prep
invariant-loop-prep l = string_bytes l.out ++ flat_map prep_line l.prep-iterator ≡ string_bytes l.fn.out ++ flat_map prep_line l.tables.state.preps
