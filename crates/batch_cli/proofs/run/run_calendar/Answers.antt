use Rattle.std.proofs.Common.{rules, subst, OnOk, OnErr, IfOk, nat_lt, inl, inr}
use Rattle.std.specs.Str.Lines.{lines}
use Rattle.byte_streams.proofs.Reading.{all_read, of_input, input_so}
use Rattle.batch_cli.specs.CalendarGoing.{CalWhole, CalPart, CountsCalls}
use Rattle.batch_cli.specs.Headline.{WritesNothing}
use Rattle.batch_cli.proofs.CalendarGoingOn.{ran_ended, writes_some, fault_rose}
use Rattle.batch_cli.proofs.Headlines.{nothing_done}
use Rattle.batch_cli.proofs.run.run_calendar.Goals as goal

pub returns-in-Err-Memory-clause-ran : goal.returns-in-Err-Memory-clause-ran
returns-in-Err-Memory-clause-ran g c =
    of_input (g.R.Source.left c.args.source.now) _ (λ script. inl (nothing_done c.args.desk (g.W.Sink.taken c.args.sink.now)))

pub returns-in-Err-Failed-clause-ran : goal.returns-in-Err-Failed-clause-ran
returns-in-Err-Failed-clause-ran g c =
    of_input (g.R.Source.left c.args.source.now) _ (λ script. nothing_done c.args.desk (g.W.Sink.taken c.args.sink.now))

pub returns-in-Err-TooLong-clause-ran : goal.returns-in-Err-TooLong-clause-ran
returns-in-Err-TooLong-clause-ran g c =
    input_so (c.in-Err-TooLong.ensures.long (search rules))
    (λ script over. (over, nothing_done c.args.desk (g.W.Sink.taken c.args.sink.now)))

pub returns-in-Err-Memory-default-clause-ran : goal.returns-in-Err-Memory-default-clause-ran
returns-in-Err-Memory-default-clause-ran g c =
    all_read (g.R.Source.left c.args.source.now) c.in-Ok.script.items _ c.in-Ok.ensures.whole
    (inr (
      search rules,
      subst (λ r. OnErr r (CalPart g.K.Keeper.faults c.args.desk c.do_calendar.result.1 (lines c.in-Ok.script.items)
          (g.W.Sink.taken c.args.sink.now) (g.W.Sink.taken c.do_calendar.new.sink))) c.in-Err-Memory-default.enum_told_at-1-is c.do_calendar.ensures.err,
    ))

pub returns-in-Err-SinkFault-default-clause-ran : goal.returns-in-Err-SinkFault-default-clause-ran
returns-in-Err-SinkFault-default-clause-ran g c =
    all_read (g.R.Source.left c.args.source.now) c.in-Ok.script.items _ c.in-Ok.ensures.whole (record {
      few = search rules;
      part = subst (λ r. OnErr r (CalPart g.K.Keeper.faults c.args.desk c.do_calendar.result.1 (lines c.in-Ok.script.items)
          (g.W.Sink.taken c.args.sink.now) (g.W.Sink.taken c.do_calendar.new.sink))) c.in-Err-SinkFault-default.enum_told_at-1-is c.do_calendar.ensures.err;
      settled = c.do_calendar.ensures.settled (search rules);
    })

pub returns-in-Ok-default-clause-ran : goal.returns-in-Ok-default-clause-ran
returns-in-Ok-default-clause-ran g c =
    all_read (g.R.Source.left c.args.source.now) c.in-Ok.script.items _ c.in-Ok.ensures.whole (ran_ended g.K.Keeper.faults c.args.desk c.do_calendar.result.1
    c.in-Ok.script.items _ _ c.in-Ok-default.tally c.has_faults.result c.limit.result c.ending.result (search rules) c.requires.in_order.limit
    (subst (λ r. OnOk r (CalWhole g.K.Keeper.faults c.args.desk c.do_calendar.result.1 (lines c.in-Ok.script.items) (g.W.Sink.taken c.args.sink.now)
    (g.W.Sink.taken c.do_calendar.new.sink))) c.in-Ok-default.is-0 c.do_calendar.ensures.ok)
    (subst (λ r. IfOk r (CountsCalls c.args.desk c.do_calendar.result.1 (lines c.in-Ok.script.items))) c.in-Ok-default.is-0 c.do_calendar.ensures.counts)
    c.has_faults.ensures c.limit.ensures c.ending.ensures)

pub returns-in-Ok-default-clause-unwritten : goal.returns-in-Ok-default-clause-unwritten
returns-in-Ok-default-clause-unwritten g c h =
    absurd (writes_some c.has_faults.result (nat_lt c.limit.result c.in-Ok-default.tally.calls) c.in-Ok-default.tally.refused
    (subst WritesNothing c.ending.ensures h))

pub returns-in-Ok-default-clause-keeper_fault : goal.returns-in-Ok-default-clause-keeper_fault
returns-in-Ok-default-clause-keeper_fault g c h =
    let whole = subst (λ r. OnOk r (CalWhole g.K.Keeper.faults c.args.desk c.do_calendar.result.1 (lines c.in-Ok.script.items)
    (g.W.Sink.taken c.args.sink.now) (g.W.Sink.taken c.do_calendar.new.sink))) c.in-Ok-default.is-0 c.do_calendar.ensures.ok in
    fault_rose c.has_faults.result (nat_lt c.limit.result c.in-Ok-default.tally.calls) c.in-Ok-default.tally.refused _ _ _ _ c.has_faults.ensures
    whole.rose c.ending.ensures h
