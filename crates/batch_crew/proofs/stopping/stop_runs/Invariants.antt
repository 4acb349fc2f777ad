use Rattle.std.proofs.Common.{◌+◌, ◌≤◌, ℕ, List, length, drop, vec_len, vec_capacity}
use Rattle.batch_crew.specs.Timers.{StopRuns}
use Rattle.batch_crew.proofs.stopping.stop_runs.Given as goal

abbrev pub invariant-loop-number : goal.invariant-loop-number
invariant-loop-number g l = record {
  stops : (now : List ℕ) (t : _) → StopRuns g.P.Stopper.stopped g.P.Stopper.faults (drop l.number-index l.asked) l.stopped.items l.stopper now t
      → StopRuns g.P.Stopper.stopped g.P.Stopper.faults l.asked l.initial.stopped.items l.initial.stopper now t;
  room : vec_len l.stopped + length l.asked ≤ vec_capacity l.stopped + l.number-index;
}
