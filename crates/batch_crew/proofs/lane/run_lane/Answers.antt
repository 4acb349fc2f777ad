use Rattle.std.proofs.Common.{subst, sym, refl, ◌∙◌, Ok, true}
use Rattle.batch_crew.specs.Lanes.{TimedCaller, none, more, rests, runs, EndsAtRest, EndsCut, IsLane, IsTurned, IsTurn, Rests, RanFor}
use Rattle.batch_crew.proofs.LaneEnds.{cut_lane}
use Rattle.batch_crew.proofs.lane.run_lane.Goals as goal

pub loop-init : goal.loop-init
loop-init g c = record { pass = c.requires.pass; number = refl; turns = none _ _ }

pub loop-preserved-in-Ok-Ran : goal.loop-preserved-in-Ok-Ran
loop-preserved-in-Ok-Ran g c =
    let start : TimedCaller g.row.C.Denot = record { pass = c.args.pass; clock = c.args.clock.now } in
    let before : TimedCaller g.row.C.Denot = record { pass = c.loop.pass; clock = c.loop.clock } in
    let after : TimedCaller g.row.C.Denot = record { pass = c.turn.new.pass; clock = c.turn.new.clock } in
    let o = c.args.desk.now.origin in let ran = RanFor g.S.Spawner.ran g.S.Spawner.faults in
    let one = subst (λ r. IsTurned o c.args.seat ran g.C.Clock.gives before c.loop.spawner after c.turn.new.spawner (Ok r))
    c.in-Ok-Ran.field-0-is c.in-Ok-Ran.ensures.turned in
    record {
      pass = c.turn.ensures.pass;
      number = c.turn.ensures.number ∙ c.loop.invariant.number;
      turns = more start before after c.args.spawner.now c.loop.spawner c.turn.new.spawner c.loop.invariant.turns
          (runs before after c.loop.spawner c.turn.new.spawner one);
    }

pub loop-preserved : goal.loop-preserved
loop-preserved g c =
    let o = c.args.desk.now.origin in let ran = RanFor g.S.Spawner.ran g.S.Spawner.faults in
    let start : TimedCaller g.row.C.Denot = record { pass = c.args.pass; clock = c.args.clock.now } in
    let before : TimedCaller g.row.C.Denot = record { pass = c.loop.pass; clock = c.loop.clock } in
    let after : TimedCaller g.row.C.Denot = record { pass = c.turn.new.pass; clock = c.turn.new.clock } in
    let paused : TimedCaller g.row.C.Denot = record { pass = c.turn.new.pass; clock = c.pause.new.self } in
    let rest = subst (λ r. IsTurned o c.args.seat ran g.C.Clock.gives before c.loop.spawner after c.turn.new.spawner (Ok r))
    c.in-Ok-Rested.field-0-is c.in-Ok-Rested.ensures.turned in
    let pause : Rests g.C.Clock.pauses after paused true = record {
      paused = subst (λ b. g.C.Clock.pauses c.turn.new.clock b c.pause.new.self) c.if-not-pause.false c.pause.ensures.told;
      same_pass = refl;
    } in
    let turn = subst (λ s. IsTurn o c.args.seat ran g.C.Clock.gives g.C.Clock.pauses before c.loop.spawner paused s) (sym rest.1)
    (rests before after paused c.loop.spawner rest.0 pause) in
    record {
      pass = c.turn.ensures.pass;
      number = c.turn.ensures.number ∙ c.loop.invariant.number;
      turns = more start before paused c.args.spawner.now c.loop.spawner c.turn.new.spawner c.loop.invariant.turns turn;
    }

pub returns-then-not-pause-clause-turns : goal.returns-then-not-pause-clause-turns
returns-then-not-pause-clause-turns g c =
    let o = c.args.desk.now.origin in let ran = RanFor g.S.Spawner.ran g.S.Spawner.faults in
    let start : TimedCaller g.row.C.Denot = record { pass = c.args.pass; clock = c.args.clock.now } in
    let before : TimedCaller g.row.C.Denot = record { pass = c.loop.pass; clock = c.loop.clock } in
    let after : TimedCaller g.row.C.Denot = record { pass = c.turn.new.pass; clock = c.turn.new.clock } in
    let paused : TimedCaller g.row.C.Denot = record { pass = c.turn.new.pass; clock = c.pause.new.self } in
    let rest = subst (λ r. IsTurned o c.args.seat ran g.C.Clock.gives before c.loop.spawner after c.turn.new.spawner (Ok r))
    c.in-Ok-Rested.field-0-is c.in-Ok-Rested.ensures.turned in
    let ends : EndsAtRest o c.args.seat ran g.C.Clock.gives g.C.Clock.pauses start c.args.spawner.now paused c.loop.spawner = record {
      before = before;
      turns = c.loop.invariant.turns;
      rested = after;
      rest = rest.0;
      pause = record {
        paused = subst (λ b. g.C.Clock.pauses c.turn.new.clock b c.pause.new.self) c.if-not-pause.true c.pause.ensures.told;
        same_pass = refl;
      };
    } in
    subst (λ s. EndsAtRest o c.args.seat ran g.C.Clock.gives g.C.Clock.pauses start c.args.spawner.now paused s) (sym rest.1) ends

pub returns-in-Err-clause-turns : goal.returns-in-Err-clause-turns
returns-in-Err-clause-turns g c =
    let o = c.args.desk.now.origin in let ran = RanFor g.S.Spawner.ran g.S.Spawner.faults in
    let start : TimedCaller g.row.C.Denot = record { pass = c.args.pass; clock = c.args.clock.now } in
    let before : TimedCaller g.row.C.Denot = record { pass = c.loop.pass; clock = c.loop.clock } in
    let after : TimedCaller g.row.C.Denot = record { pass = c.turn.new.pass; clock = c.turn.new.clock } in
    let cut = c.in-Err.cut in
    let ends : EndsCut o c.args.seat ran g.C.Clock.gives g.C.Clock.pauses cut start c.args.spawner.now after c.turn.new.spawner = record {
      before = before;
      so_far = c.loop.spawner;
      turns = c.loop.invariant.turns;
      last = c.in-Err.ensures.turned;
    } in
    subst (λ why. IsLane o c.args.seat ran g.C.Clock.gives g.C.Clock.pauses start c.args.spawner.now after c.turn.new.spawner why) (sym c.into.ensures)
    (cut_lane o c.args.seat ran g.C.Clock.gives g.C.Clock.pauses cut start c.args.spawner.now after c.turn.new.spawner ends)
