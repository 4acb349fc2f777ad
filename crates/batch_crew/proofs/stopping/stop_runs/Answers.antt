use Rattle.std.proofs.Common.{List, ℕ, subst, sym, arith}
use Rattle.std.proofs.lemmas.List.{at_drop_more, drop_all}
use Rattle.batch_crew.specs.Timers.{StopRuns, none, more}
use Rattle.batch_crew.proofs.stopping.stop_runs.Goals as goal

pub loop-number-preserved : goal.loop-number-preserved
loop-number-preserved g c =
    let xs = c.args.asked.now in let i = c.loop-number.number-index in let inside = c.loop-number-test.true in
    let room = c.loop-number.invariant.room in let length_now = c.stop_run.ensures.length in let capacity = c.stop_run.ensures.capacity in
    record {
      stops = λ now t rest. c.loop-number.invariant.stops now t
          (subst (λ (ys : List ℕ). StopRuns g.P.Stopper.stopped g.P.Stopper.faults ys c.loop-number.stopped.items c.loop-number.stopper now t)
          (sym (at_drop_more (λ (ys : List ℕ). ys) xs i 0 inside)) (more _ _ _ _ _ _ _ _ c.stop_run.ensures.stops rest));
      room = omega arith;
    }

pub returns-clause-stops : goal.returns-clause-stops
returns-clause-stops g c =
    let past = c.loop-number-test.false in
    let ends = c.loop-number.invariant.stops c.loop-number.stopped.items c.loop-number.stopper
    (subst (λ (ys : List ℕ). StopRuns g.P.Stopper.stopped g.P.Stopper.faults ys c.loop-number.stopped.items c.loop-number.stopper c.loop-number.stopped.items c.loop-number.stopper)
    (sym (drop_all c.loop-number.number-index c.args.asked.now past)) (none _ _)) in
    subst (λ (ys : List ℕ). StopRuns g.P.Stopper.stopped g.P.Stopper.faults c.args.asked.now ys c.args.stopper.now c.loop-number.stopped.items c.loop-number.stopper)
    c.reserve.ensures.items ends
