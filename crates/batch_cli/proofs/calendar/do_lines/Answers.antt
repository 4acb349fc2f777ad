use Rattle.std.proofs.Common.{arith, refl, rules}
use Rattle.std.specs.Str.Lines.{lines}
use Rattle.batch_cli.proofs.Advancing.{at_err_anyway}
use Rattle.batch_cli.proofs.CalendarAdvancing.{keeps_itself, keeps_more}
use Rattle.batch_cli.proofs.CalendarGoingOn.{going_start, going_on, going_halts, going_done, cal_refused_next}
use Rattle.batch_cli.proofs.calendar.do_lines.Goals as goal

pub loop-line-init : goal.loop-line-init
loop-line-init g c = record {
  going = going_start g.K.Keeper.faults (lines c.args.script.now) (g.W.Sink.taken c.args.sink.now) c.requires.new;
  keeps = keeps_itself g.K.Keeper.told g.K.Keeper.faults c.args.calendar.now.asker c.requires.in_order;
  few = omega arith;
  refused = refl;
  later = omega arith;
}

pub returns-in_err-asked-clause-err : goal.returns-in_err-asked-clause-err
returns-in_err-asked-clause-err g c =
    at_err_anyway _ (going_halts c.in-Some.line.now (lines c.in-Some.more.now) c.loop-line.invariant.going c.in-Some.ensures.split
    c.in_err-asked.ensures.keeps.same c.in_err-asked.ensures.err)

pub returns-in_err-asked-clause-settled : goal.returns-in_err-asked-clause-settled
returns-in_err-asked-clause-settled g c h =
    omega (arith, c.in_err-asked.ensures.settled (search rules), c.loop-line.invariant.going.settled)

pub returns-in_err-asked-clause-keeps : goal.returns-in_err-asked-clause-keeps
returns-in_err-asked-clause-keeps g c =
    keeps_more g.K.Keeper.told g.K.Keeper.faults c.args.calendar.now.asker c.loop-line.calendar.asker c.do_line.new.calendar.asker
    c.loop-line.invariant.keeps c.in_err-asked.ensures.keeps

pub loop-line-preserved : goal.loop-line-preserved
loop-line-preserved g c = record {
  going = going_on c.saturating_add.result c.in-Some.line.now (lines c.in-Some.more.now) c.loop-line.invariant.going c.in-Some.ensures.split
      c.in_ok-asked.ensures.keeps.same c.in_ok-asked.ensures.ok c.saturating_add.ensures;
  keeps = keeps_more g.K.Keeper.told g.K.Keeper.faults c.args.calendar.now.asker c.loop-line.calendar.asker c.do_line.new.calendar.asker
      c.loop-line.invariant.keeps c.in_ok-asked.ensures.keeps;
  few = omega (arith, c.in-Some.ensures.shorter);
  refused = cal_refused_next c.loop-line.tally.refused _ _ c.in_ok-asked.asked (lines c.loop-line.rest.now) c.in-Some.line.now (lines c.in-Some.more.now)
      c.in-Some.ensures.split c.in_ok-asked.ensures.ok.refused refl c.loop-line.invariant.refused;
  later = omega (arith, c.in_ok-asked.ensures.later);
}

pub returns-clause-ok : goal.returns-clause-ok
returns-clause-ok g c = going_done c.loop-line.tally (search rules) c.loop-line.invariant.going c.loop-line.invariant.refused
