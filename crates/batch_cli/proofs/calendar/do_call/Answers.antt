use Rattle.std.proofs.Common.{arith, rules, refl, ap, ◌≡◌, string_bytes, subst}
use Rattle.byte_streams.specs.Content.{Gains, GainsFront}
use Rattle.batch_cli.specs.Shown.{memory_stops}
use Rattle.batch_cli.proofs.Advancing.{at_err_anyway}
use Rattle.batch_cli.proofs.CalendarAdvancing.{halts_at}
use Rattle.batch_cli.proofs.GoingOn.{stops_append}
use Rattle.batch_cli.proofs.calendar.do_call.Goals as goal

pub returns-in_err-output-clause-err : goal.returns-in_err-output-clause-err
returns-in_err-output-clause-err g c = at_err_anyway _ (c.in_err-output.ensures.err (g.W.Sink.taken c.args.sink.now))

pub returns-in_err-write_all-clause-err : goal.returns-in_err-write_all-clause-err
returns-in_err-write_all-clause-err g c =
    let text : c.as_bytes.result.now ≡ string_bytes c.in_ok-output.output.text = search rules in
    at_err_anyway _ (halts_at _ _ c.in_ok-output.ensures.ok.step (subst
    (GainsFront (g.W.Sink.taken c.args.sink.now) (g.W.Sink.taken c.write_all.new.sink)) text c.in_err-write_all.ensures.err))

pub returns-in_err-write_all-clause-settled : goal.returns-in_err-write_all-clause-settled
returns-in_err-write_all-clause-settled g c _ =
    let shown = c.in_ok-output.ensures.ok in
    omega (arith, shown.settled, ap memory_stops shown.step.entries, stops_append c.args.calendar.now.asker.entries shown.step.added)

pub returns-clause-ok : goal.returns-clause-ok
returns-clause-ok g c =
    let text : c.as_bytes.result.now ≡ string_bytes c.in_ok-output.output.text = search rules in
    record {
      text = string_bytes c.in_ok-output.output.text;
      step = c.in_ok-output.ensures.ok.step;
      written = subst
          (Gains (g.W.Sink.taken c.args.sink.now) (g.W.Sink.taken c.write_all.new.sink)) text c.in_ok-write_all.ensures.ok;
      settled = c.in_ok-output.ensures.ok.settled;
      calls = c.in_ok-output.ensures.ok.count;
      refused = refl;
    }
