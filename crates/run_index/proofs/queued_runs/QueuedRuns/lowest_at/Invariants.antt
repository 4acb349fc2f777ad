use Rattle.std.proofs.Common.{◌≡◌, ◌-◌, length, drop}
use Rattle.std.specs.Option.{option_copied}
use Rattle.kept_table.specs.Slots.{rows}
use Rattle.run_index.specs.Lowest.{lowest_run_from}
use Rattle.run_index.specs.Seats.{lowest_at}
use Rattle.run_index.proofs.queued_runs.QueuedRuns.lowest_at.Given as goal

-- the lower of the lowest so far and of the runs that are left is the lowest
abbrev pub invariant-loop-place : goal.invariant-loop-place
invariant-loop-place l =
    lowest_run_from l.tables.state l.seat (option_copied l.lowest) (rows (drop l.from l.tables.run_slots)) ≡ lowest_at l.tables.state l.seat

abbrev pub decreases-loop-place : goal.decreases-loop-place
decreases-loop-place l = length l.tables.run_slots - l.from
