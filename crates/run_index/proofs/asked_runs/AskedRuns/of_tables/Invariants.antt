use Rattle.std.proofs.Common.{take}
use Rattle.run_index.specs.Asked.{AreAsked}
use Rattle.run_index.proofs.asked_runs.AskedRuns.of_tables.Given as goal

abbrev pub invariant-loop-place : goal.invariant-loop-place
invariant-loop-place l = AreAsked (take l.place l.fn.tables.run_slots) l.asked.items
