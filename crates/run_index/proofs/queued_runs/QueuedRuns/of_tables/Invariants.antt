use Rattle.std.proofs.Common.{take}
use Rattle.run_index.specs.Queued.{AreQueued}
use Rattle.run_index.proofs.queued_runs.QueuedRuns.of_tables.Given as goal

abbrev pub invariant-loop-place : goal.invariant-loop-place
invariant-loop-place l = AreQueued (take l.place l.fn.tables.run_slots) l.queued.items
