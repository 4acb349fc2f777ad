use Rattle.std.proofs.Common.{arith, refl}
use Rattle.std.specs.Str.Lines.{lines}
use Rattle.wire_lines.specs.Lines.{line_of}
use Rattle.batch_cli.proofs.Advancing.{at_err_anyway}
use Rattle.batch_cli.proofs.GoingOn.{going_start, going_on, going_halts, calls_next, refused_next, one_call}
use Rattle.batch_cli.proofs.replay.do_lines.Goals as goal

pub loop-line-init : goal.loop-line-init
loop-line-init g c = record {
  going = going_start g.K.Keeper.faults (lines c.args.script.now) (g.W.Sink.taken c.args.sink.now) c.requires.begins;
  in_order = c.requires.in_order;
  few = omega arith;
  calls = omega arith;
  made = omega arith;
  refused = refl;
  keeper_later = omega arith;
  later = omega arith;
}

pub returns-in_err-asked-clause-err : goal.returns-in_err-asked-clause-err
returns-in_err-asked-clause-err g c =
    at_err_anyway _ (going_halts c.in-Some.line.now (lines c.in-Some.more.now) c.loop-line.invariant.going c.in-Some.ensures.split
    c.in_err-asked.ensures.same c.in_err-asked.ensures.in_order.within c.in_err-asked.ensures.keeper_later c.in_err-asked.ensures.err)

pub loop-line-preserved : goal.loop-line-preserved
loop-line-preserved g c = record {
  going = going_on c.in-Some.line.now (lines c.in-Some.more.now) c.loop-line.invariant.going c.in-Some.ensures.split c.in_ok-asked.ensures.same
      c.in_ok-asked.ensures.ok;
  in_order = c.in_ok-asked.ensures.in_order;
  few = omega (arith, c.in-Some.ensures.shorter);
  calls = calls_next _ _ _ c.in_ok-asked.asked (lines c.loop-line.rest.now) c.in-Some.line.now (lines c.in-Some.more.now) c.in-Some.ensures.split
      c.in_ok-asked.ensures.counts refl c.loop-line.invariant.calls;
  made = omega (arith, c.loop-line.invariant.made, c.in_ok-asked.ensures.counts.calls, one_call (line_of c.in-Some.line.now));
  refused = refused_next c.loop-line.tally.refused _ _ c.in_ok-asked.asked (lines c.loop-line.rest.now) c.in-Some.line.now (lines c.in-Some.more.now)
      c.in-Some.ensures.split c.in_ok-asked.ensures.counts refl c.loop-line.invariant.refused;
  keeper_later = omega (arith, c.in_ok-asked.ensures.keeper_later);
  later = omega (arith, c.in_ok-asked.ensures.later);
}
