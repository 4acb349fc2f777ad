use Rattle.std.proofs.Common.{◌≡◌}
use Rattle.counted_lock.specs.Passes.{IsPassOf}
use Rattle.batch_crew.specs.Timers.{AreTimerTurns, timer_at_start}
use Rattle.batch_crew.proofs.timer.run_timer.Given as goal

abbrev pub invariant-loop : goal.invariant-loop
invariant-loop g l = record {
  pass : IsPassOf l.desk l.pass;
  number : l.pass.number ≡ l.initial.pass.number;
  turns : AreTimerTurns l.desk.origin g.P.Stopper.stopped g.P.Stopper.faults g.C.Clock.gives g.C.Clock.pauses
      (timer_at_start l.initial.pass l.initial.stopper l.initial.clock)
      (record { pass = l.pass; stopper = l.stopper; clock = l.clock; last = l.progress.last; stopped = l.progress.stopped.items });
}
