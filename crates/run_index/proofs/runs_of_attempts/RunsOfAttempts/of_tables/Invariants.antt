use Rattle.std.proofs.Common.{take}
use Rattle.run_index.specs.Attempts.{HasRuns}
use Rattle.run_index.proofs.runs_of_attempts.RunsOfAttempts.of_tables.Given as goal

abbrev pub invariant-loop-place : goal.invariant-loop-place
invariant-loop-place l = HasRuns l.runs (take l.place l.fn.tables.run_slots)
