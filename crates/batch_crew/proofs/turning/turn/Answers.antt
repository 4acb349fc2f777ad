use Rattle.std.proofs.Common.{rules, ◌≡◌, ◌∙◌, subst, sym, refl, Ok, Err, Some, None}
use Rattle.shared_desk.specs.Sharing.{LooksAt}
use Rattle.batch_crew.specs.Lanes.{TimedCaller, IsTurned, RanFor, Shows, Takes, Tells, Starts, child_of, idles, misses, unseen, untaken, unrun, untold}
use Rattle.batch_crew.specs.declared.cut.Cut.TheVariants.{Memory as NoMemory}
use Rattle.batch_crew.proofs.turning.turn.Goals as goal

pub returns-in_err-found-clause-turned : goal.returns-in_err-found-clause-turned
returns-in_err-found-clause-turned g c =
    let before : TimedCaller g.row.C.Denot = record { pass = c.args.pass.now; clock = c.args.clock.now } in
    let seen : TimedCaller g.row.C.Denot = record { pass = c.queued_at.new.pass; clock = c.args.clock.now } in
    let e : c.from_residual.result ≡ Err NoMemory = search rules in
    subst (λ r. IsTurned c.args.desk.now.origin c.args.seat (RanFor g.S.Spawner.ran g.S.Spawner.faults) g.C.Clock.gives before c.args.spawner.now seen c.args.spawner.now r)
    (sym e) (unseen before seen _ c.in_err-found.ensures.looks.sees refl)

pub returns-in_default-clause-turned : goal.returns-in_default-clause-turned
returns-in_default-clause-turned g c =
    let o = c.args.desk.now.origin in let seat = c.args.seat in
    let before : TimedCaller g.row.C.Denot = record { pass = c.args.pass.now; clock = c.args.clock.now } in
    let seen : TimedCaller g.row.C.Denot = record { pass = c.queued_at.new.pass; clock = c.args.clock.now } in
    let shown : Shows o seat before seen None = record {
      looks = subst (λ r. LooksAt o c.args.pass.now c.queued_at.new.pass seat (Ok r)) c.in_default.is c.in_ok-found.ensures.looks;
      same_clock = refl;
    } in
    (idles before seen shown, refl)

pub returns-in_err-take-clause-turned : goal.returns-in_err-take-clause-turned
returns-in_err-take-clause-turned g c =
    let o = c.args.desk.now.origin in let seat = c.args.seat in let run = c.in-Some.found in
    let before : TimedCaller g.row.C.Denot = record { pass = c.args.pass.now; clock = c.args.clock.now } in
    let seen : TimedCaller g.row.C.Denot = record { pass = c.queued_at.new.pass; clock = c.args.clock.now } in
    let asked : TimedCaller g.row.C.Denot = record { pass = c.take.new.pass; clock = c.take.new.clock } in
    let shown : Shows o seat before seen (Some run) = record {
      looks = subst (λ r. LooksAt o c.args.pass.now c.queued_at.new.pass seat (Ok r)) c.in-Some.is c.in_ok-found.ensures.looks;
      same_clock = refl;
    } in
    let cut = c.in_err-take.field-0.0 in
    let e : c.from_residual-in_err-take.result ≡ Err cut = search rules in
    subst (λ r. IsTurned o seat (RanFor g.S.Spawner.ran g.S.Spawner.faults) g.C.Clock.gives before c.args.spawner.now asked c.args.spawner.now r) (sym e)
    (untaken before seen asked _ run cut shown
    (subst (λ n. Takes o g.C.Clock.gives seen asked n (Err cut)) c.number-number.ensures c.in_err-take.ensures.takes))

pub returns-then-not-branch-clause-turned : goal.returns-then-not-branch-clause-turned
returns-then-not-branch-clause-turned g c =
    let o = c.args.desk.now.origin in let seat = c.args.seat in let run = c.in-Some.found in
    let before : TimedCaller g.row.C.Denot = record { pass = c.args.pass.now; clock = c.args.clock.now } in
    let seen : TimedCaller g.row.C.Denot = record { pass = c.queued_at.new.pass; clock = c.args.clock.now } in
    let asked : TimedCaller g.row.C.Denot = record { pass = c.take.new.pass; clock = c.take.new.clock } in
    let shown : Shows o seat before seen (Some run) = record {
      looks = subst (λ r. LooksAt o c.args.pass.now c.queued_at.new.pass seat (Ok r)) c.in-Some.is c.in_ok-found.ensures.looks;
      same_clock = refl;
    } in
    let missed = subst (λ b. Takes o g.C.Clock.gives seen asked run.number (Ok b)) c.if-not-branch.true
    (subst (λ n. Takes o g.C.Clock.gives seen asked n (Ok c.in_ok-take.field-0)) c.number-number.ensures c.in_ok-take.ensures.takes) in
    (misses before seen asked run shown missed, refl)

pub returns-in_default-ending-clause-turned : goal.returns-in_default-ending-clause-turned
returns-in_default-ending-clause-turned g c =
    let o = c.args.desk.now.origin in let seat = c.args.seat in let run = c.in-Some.found in
    let before : TimedCaller g.row.C.Denot = record { pass = c.args.pass.now; clock = c.args.clock.now } in
    let seen : TimedCaller g.row.C.Denot = record { pass = c.queued_at.new.pass; clock = c.args.clock.now } in
    let taken : TimedCaller g.row.C.Denot = record { pass = c.take.new.pass; clock = c.take.new.clock } in
    let starts : Starts o seat g.C.Clock.gives before taken run = record {
      seen = seen;
      shown = record {
        looks = subst (λ r. LooksAt o c.args.pass.now c.queued_at.new.pass seat (Ok r)) c.in-Some.is c.in_ok-found.ensures.looks;
        same_clock = refl;
      };
      taken = subst (λ b. Takes o g.C.Clock.gives seen taken run.number (Ok b)) c.if-not-branch.false
          (subst (λ n. Takes o g.C.Clock.gives seen taken n (Ok c.in_ok-take.field-0)) c.number-number.ensures c.in_ok-take.ensures.takes);
    } in
    let ran : RanFor g.S.Spawner.ran g.S.Spawner.faults c.args.spawner.now (child_of run c.run.result) c.run.new.self = record {
      by = subst (λ n. g.S.Spawner.ran c.args.spawner.now (record { number = n; words = run.words; how = c.run.result }) c.run.new.self) c.number-number.ensures
          (subst (λ ws. g.S.Spawner.ran c.args.spawner.now (record { number = c.number-number.result; words = ws; how = c.run.result }) c.run.new.self)
          c.words.ensures c.run.ensures.ran);
      cause = c.run.ensures.cause;
    } in
    unrun before taken _ _ run c.run.result starts ran (sym c.ending.ensures ∙ c.in_default-ending.is)

pub returns-in_err-tell-clause-turned : goal.returns-in_err-tell-clause-turned
returns-in_err-tell-clause-turned g c =
    let o = c.args.desk.now.origin in let seat = c.args.seat in let run = c.in-Some.found in
    let before : TimedCaller g.row.C.Denot = record { pass = c.args.pass.now; clock = c.args.clock.now } in
    let seen : TimedCaller g.row.C.Denot = record { pass = c.queued_at.new.pass; clock = c.args.clock.now } in
    let taken : TimedCaller g.row.C.Denot = record { pass = c.take.new.pass; clock = c.take.new.clock } in
    let after : TimedCaller g.row.C.Denot = record { pass = c.tell.new.pass; clock = c.tell.new.clock } in
    let starts : Starts o seat g.C.Clock.gives before taken run = record {
      seen = seen;
      shown = record {
        looks = subst (λ r. LooksAt o c.args.pass.now c.queued_at.new.pass seat (Ok r)) c.in-Some.is c.in_ok-found.ensures.looks;
        same_clock = refl;
      };
      taken = subst (λ b. Takes o g.C.Clock.gives seen taken run.number (Ok b)) c.if-not-branch.false
          (subst (λ n. Takes o g.C.Clock.gives seen taken n (Ok c.in_ok-take.field-0)) c.number-number.ensures c.in_ok-take.ensures.takes);
    } in
    let ran : RanFor g.S.Spawner.ran g.S.Spawner.faults c.args.spawner.now (child_of run c.run.result) c.run.new.self = record {
      by = subst (λ n. g.S.Spawner.ran c.args.spawner.now (record { number = n; words = run.words; how = c.run.result }) c.run.new.self) c.number-number.ensures
          (subst (λ ws. g.S.Spawner.ran c.args.spawner.now (record { number = c.number-number.result; words = ws; how = c.run.result }) c.run.new.self)
          c.words.ensures c.run.ensures.ran);
      cause = c.run.ensures.cause;
    } in
    let cut = c.in_err-tell.field-0.0 in
    let e : c.from_residual-in_err-tell.result ≡ Err cut = search rules in
    subst (λ r. IsTurned o seat (RanFor g.S.Spawner.ran g.S.Spawner.faults) g.C.Clock.gives before c.args.spawner.now after c.run.new.self r) (sym e)
    (untold before taken after _ _ run c.run.result c.in-Some-ending.ending cut starts ran (sym c.ending.ensures ∙ c.in-Some-ending.is)
    (subst (λ n. Tells o g.C.Clock.gives taken after n c.in-Some-ending.ending (Err cut)) c.number-number.ensures c.in_err-tell.ensures.tells))

pub returns-clause-turned : goal.returns-clause-turned
returns-clause-turned g c =
    let o = c.args.desk.now.origin in let seat = c.args.seat in let run = c.in-Some.found in
    let before : TimedCaller g.row.C.Denot = record { pass = c.args.pass.now; clock = c.args.clock.now } in
    let seen : TimedCaller g.row.C.Denot = record { pass = c.queued_at.new.pass; clock = c.args.clock.now } in
    let taken : TimedCaller g.row.C.Denot = record { pass = c.take.new.pass; clock = c.take.new.clock } in
    let starts : Starts o seat g.C.Clock.gives before taken run = record {
      seen = seen;
      shown = record {
        looks = subst (λ r. LooksAt o c.args.pass.now c.queued_at.new.pass seat (Ok r)) c.in-Some.is c.in_ok-found.ensures.looks;
        same_clock = refl;
      };
      taken = subst (λ b. Takes o g.C.Clock.gives seen taken run.number (Ok b)) c.if-not-branch.false
          (subst (λ n. Takes o g.C.Clock.gives seen taken n (Ok c.in_ok-take.field-0)) c.number-number.ensures c.in_ok-take.ensures.takes);
    } in
    let ran : RanFor g.S.Spawner.ran g.S.Spawner.faults c.args.spawner.now (child_of run c.run.result) c.run.new.self = record {
      by = subst (λ n. g.S.Spawner.ran c.args.spawner.now (record { number = n; words = run.words; how = c.run.result }) c.run.new.self) c.number-number.ensures
          (subst (λ ws. g.S.Spawner.ran c.args.spawner.now (record { number = c.number-number.result; words = ws; how = c.run.result }) c.run.new.self)
          c.words.ensures c.run.ensures.ran);
      cause = c.run.ensures.cause;
    } in
    record {
      started = taken;
      run = run;
      how = c.run.result;
      ending = c.in-Some-ending.ending;
      starts = starts;
      runs = ran;
      told = sym c.ending.ensures ∙ c.in-Some-ending.is;
      tells = subst (λ n. Tells o g.C.Clock.gives taken (record { pass = c.tell.new.pass; clock = c.tell.new.clock }) n c.in-Some-ending.ending (Ok tt))
          c.number-number.ensures c.in_ok-tell.ensures.tells;
    }
