use Rattle.std.proofs.Common.{rules, ◌≡◌, subst, sym, true, false}
use Rattle.batch_crew.specs.Timers.{is_in, StopsRun, known, stops, fails}
use Rattle.batch_crew.proofs.stopping.stop_run.Goals as goal

pub returns-then-is_in-clause-stops : goal.returns-then-is_in-clause-stops
returns-then-is_in-clause-stops g c =
    let is : is_in c.args.stopped.now.items c.args.number ≡ true = search rules in known _ _ is

pub returns-in-Ok-clause-stops : goal.returns-in-Ok-clause-stops
returns-in-Ok-clause-stops g c =
    let is : is_in c.args.stopped.now.items c.args.number ≡ false = search rules in
    subst (λ xs. StopsRun g.P.Stopper.stopped g.P.Stopper.faults c.args.number c.args.stopped.now.items c.args.stopper.now xs c.stop.new.self)
    (sym c.push_reserved.ensures.items)
    (stops _ _ _ is c.in-Ok.ensures.stopped c.stop.ensures.cause.later)

pub returns-in-Err-clause-stops : goal.returns-in-Err-clause-stops
returns-in-Err-clause-stops g c =
    let is : is_in c.args.stopped.now.items c.args.number ≡ false = search rules in
    fails _ _ _ is c.in-Err.ensures.stopped c.stop.ensures.cause.later c.in-Err.ensures.cause.failed
