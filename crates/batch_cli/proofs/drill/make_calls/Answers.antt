use Rattle.std.proofs.Common.{arith, sym, subst}
use Rattle.batch_cli.specs.Drilling.{DrillWhole}
use Rattle.batch_cli.proofs.Advancing.{at_err_anyway}
use Rattle.batch_cli.proofs.Drills.{drill_on, drill_ends, drill_stops, left_after, state_after, step_at, end_at}
use Rattle.batch_cli.proofs.drill.make_calls.Goals as goal

pub returns-in_err-next-clause-err : goal.returns-in_err-next-clause-err
returns-in_err-next-clause-err g c =
    let going = c.loop-next.invariant.going in
    at_err_anyway _ (drill_stops going (state_after c.requires.begins going.same c.loop-next.invariant.in_order) c.in_err-next.ensures.same
    c.in_err-next.ensures.later c.in_err-next.ensures.err)

pub loop-next-smaller : goal.loop-next-smaller
loop-next-smaller g c =
    let step = step_at c.in-Some.is c.in_ok-next.ensures.next in
    omega (arith, left_after c.loop-next.stage c.in-Some.next c.loop-next.desk.state step.call step.asked)

pub loop-next-preserved : goal.loop-next-preserved
loop-next-preserved g c =
    let going = c.loop-next.invariant.going in
    record {
      going = drill_on c.in-Some.next going (state_after c.requires.begins going.same c.loop-next.invariant.in_order) c.in_ok-next.ensures.same
          (step_at c.in-Some.is c.in_ok-next.ensures.next);
      in_order = c.in_ok-next.ensures.in_order;
      later = omega (arith, c.in_ok-next.ensures.later);
    }

pub returns-clause-ok : goal.returns-clause-ok
returns-clause-ok g c =
    let going = c.loop-next.invariant.going in
    let end = end_at _ c.in_default.not-Some c.in_ok-next.ensures.end in
    subst (λ now. DrillWhole g.K.Keeper.faults c.args.desk.now now c.args.count) (sym end.1)
    (drill_ends going (state_after c.requires.begins going.same c.loop-next.invariant.in_order) end.0)
