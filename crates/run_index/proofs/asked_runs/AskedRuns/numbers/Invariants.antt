use Rattle.std.proofs.Common.{◌≡◌, ◌++◌, ◌-◌, length, drop}
use Rattle.kept_table.specs.Slots.{rows}
use Rattle.run_index.specs.Seats.{asked_of, asked_runs}
use Rattle.run_index.proofs.asked_runs.AskedRuns.numbers.Given as goal

-- the numbers so far, and those of the runs that are left
abbrev pub invariant-loop-place : goal.invariant-loop-place
invariant-loop-place l = l.numbers.items ++ asked_of (rows (drop l.from l.tables.run_slots)) ≡ asked_runs l.tables.state

abbrev pub decreases-loop-place : goal.decreases-loop-place
decreases-loop-place l = length l.tables.run_slots - l.from
