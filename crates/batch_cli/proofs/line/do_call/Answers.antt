use Rattle.std.proofs.Common.{arith, rules, ap, ◌≡◌, inr, string_bytes, subst}
use Rattle.byte_streams.specs.Content.{Gains, GainsFront}
use Rattle.batch_cli.specs.Shown.{memory_stops}
use Rattle.batch_cli.proofs.Advancing.{at_err_anyway}
use Rattle.batch_cli.proofs.GoingOn.{stops_append}
use Rattle.batch_cli.proofs.line.do_call.Goals as goal

pub returns-in_err-text-clause-err : goal.returns-in_err-text-clause-err
returns-in_err-text-clause-err g c = at_err_anyway _ (c.in_err-text.ensures.err (g.W.Sink.taken c.args.sink.now))

pub returns-in_err-write_all-clause-err : goal.returns-in_err-write_all-clause-err
returns-in_err-write_all-clause-err g c =
    let text : c.as_bytes.result.now ≡ string_bytes c.in_ok-text.text = search rules in
    at_err_anyway _ (inr (record {
      text = string_bytes c.in_ok-text.text;
      step = c.in_ok-text.ensures.ok.step;
      written = subst
          (GainsFront (g.W.Sink.taken c.args.sink.now) (g.W.Sink.taken c.write_all.new.sink)) text c.in_err-write_all.ensures.err;
    }))

pub returns-in_err-write_all-clause-settled : goal.returns-in_err-write_all-clause-settled
returns-in_err-write_all-clause-settled g c _ =
    let shown = c.in_ok-text.ensures.ok in
    omega (arith, shown.settled, ap memory_stops shown.step.entries, stops_append c.args.desk.now.entries shown.step.added)

pub returns-clause-ok : goal.returns-clause-ok
returns-clause-ok g c =
    let text : c.as_bytes.result.now ≡ string_bytes c.in_ok-text.text = search rules in
    record {
      text = string_bytes c.in_ok-text.text;
      step = c.in_ok-text.ensures.ok.step;
      written = subst
          (Gains (g.W.Sink.taken c.args.sink.now) (g.W.Sink.taken c.write_all.new.sink)) text c.in_ok-write_all.ensures.ok;
      settled =
          c.in_ok-text.ensures.ok.settled;
    }
