use Rattle.std.proofs.Common.{◌≡◌, ◌++◌, string_bytes}
use Rattle.std.specs.Prelude.{flat_map}
use Rattle.wire_texts.specs.Rows.{run_line}
use Rattle.wire_texts.proofs.tables.push_runs.Given as goal

abbrev pub invariant-loop-run : goal.invariant-loop-run
invariant-loop-run l = string_bytes l.out ++ flat_map run_line l.run-iterator ≡ string_bytes l.fn.out ++ flat_map run_line l.tables.state.runs
