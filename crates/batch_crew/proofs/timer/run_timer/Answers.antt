use Rattle.std.proofs.Common.{refl, sym, subst, ◌∙◌, None, List, ℕ}
use Rattle.batch_crew.specs.Ends.{end_of}
use Rattle.batch_crew.specs.declared.cut.LaneEnd.TheVariants.{Ended}
use Rattle.batch_crew.specs.Timers.{none, more, TimerState, timer_at_start, AreTimerTurns, EndsAfterTurn, EndsInTurn, RunsTimer}
use Rattle.batch_crew.proofs.Turns.{runs_timer, cut_timer}
use Rattle.batch_crew.proofs.timer.run_timer.Goals as goal

pub loop-init : goal.loop-init
loop-init g c =
    let start = timer_at_start c.args.pass c.args.stopper.now c.args.clock.now in
    record {
      pass = c.requires.pass;
      number = refl;
      turns = subst (λ (xs : List ℕ). AreTimerTurns c.args.desk.now.origin g.P.Stopper.stopped g.P.Stopper.faults g.C.Clock.gives g.C.Clock.pauses start
          (record { pass = c.args.pass; stopper = c.args.stopper.now; clock = c.args.clock.now; last = None; stopped = xs })) (sym c.new.ensures.items) none;
    }

pub returns-in-Err-clause-runs : goal.returns-in-Err-clause-runs
returns-in-Err-clause-runs g c =
    let o = c.args.desk.now.origin in let t = c.timer_turn-turned.new in
    let start = timer_at_start c.args.pass c.args.stopper.now c.args.clock.now in
    let before : TimerState _ _ = record { pass = c.loop.pass; stopper = c.loop.stopper; clock = c.loop.clock; last = c.loop.progress.last; stopped = c.loop.progress.stopped.items } in
    let now : TimerState _ _ = record { pass = t.pass; stopper = t.stopper; clock = t.clock; last = t.progress.last; stopped = t.progress.stopped.items } in
    let ends : EndsInTurn o g.P.Stopper.stopped g.P.Stopper.faults g.C.Clock.gives g.C.Clock.pauses c.in-Err.cut start now =
    record { before = before; turns = c.loop.invariant.turns; last = c.in-Err.ensures.turned } in
    subst (λ why. RunsTimer o g.P.Stopper.stopped g.P.Stopper.faults g.C.Clock.gives g.C.Clock.pauses c.args.pass c.args.stopper.now c.args.clock.now t.pass t.stopper t.clock why)
    (sym c.into.ensures)
    (runs_timer o g.P.Stopper.stopped g.P.Stopper.faults g.C.Clock.gives g.C.Clock.pauses c.args.pass c.args.stopper.now c.args.clock.now t.pass t.stopper t.clock
    t.progress.last t.progress.stopped.items (end_of c.in-Err.cut) (cut_timer o g.P.Stopper.stopped g.P.Stopper.faults g.C.Clock.gives g.C.Clock.pauses c.in-Err.cut start now ends))

pub returns-then-not-pause-clause-runs : goal.returns-then-not-pause-clause-runs
returns-then-not-pause-clause-runs g c =
    let o = c.args.desk.now.origin in let t = c.timer_turn-turned.new in
    let start = timer_at_start c.args.pass c.args.stopper.now c.args.clock.now in
    let before : TimerState _ _ = record { pass = c.loop.pass; stopper = c.loop.stopper; clock = c.loop.clock; last = c.loop.progress.last; stopped = c.loop.progress.stopped.items } in
    let turned : TimerState _ _ = record { pass = t.pass; stopper = t.stopper; clock = t.clock; last = t.progress.last; stopped = t.progress.stopped.items } in
    let now : TimerState _ _ = record { pass = t.pass; stopper = t.stopper; clock = c.pause.new.self; last = t.progress.last; stopped = t.progress.stopped.items } in
    let ends : EndsAfterTurn o g.P.Stopper.stopped g.P.Stopper.faults g.C.Clock.gives g.C.Clock.pauses start now =
    record {
      before = before;
      turned = turned;
      turns = c.loop.invariant.turns;
      turn = c.in_default.ensures.turned;
      pause = subst (λ b. g.C.Clock.pauses t.clock b c.pause.new.self) c.if-not-pause.true c.pause.ensures.told;
      paused = refl;
    } in
    runs_timer o g.P.Stopper.stopped g.P.Stopper.faults g.C.Clock.gives g.C.Clock.pauses c.args.pass c.args.stopper.now c.args.clock.now t.pass t.stopper c.pause.new.self
    t.progress.last t.progress.stopped.items Ended ends

pub loop-preserved : goal.loop-preserved
loop-preserved g c =
    let t = c.timer_turn-turned.new in
    let before : TimerState _ _ = record { pass = c.loop.pass; stopper = c.loop.stopper; clock = c.loop.clock; last = c.loop.progress.last; stopped = c.loop.progress.stopped.items } in
    let turned : TimerState _ _ = record { pass = t.pass; stopper = t.stopper; clock = t.clock; last = t.progress.last; stopped = t.progress.stopped.items } in
    record {
      pass = c.timer_turn-turned.ensures.pass;
      number = c.timer_turn-turned.ensures.number ∙ c.loop.invariant.number;
      turns = more before turned c.pause.new.self c.loop.invariant.turns c.in_default.ensures.turned
          (subst (λ b. g.C.Clock.pauses t.clock b c.pause.new.self) c.if-not-pause.false c.pause.ensures.told);
    }
