use Rattle.std.proofs.Common.{rules, inl}
use Rattle.byte_streams.proofs.Gaining.{gains_nothing}
use Rattle.byte_streams.proofs.Reading.{of_input}
use Rattle.batch_cli.proofs.CalendarHeadlines.{cal_ran_opened}
use Rattle.batch_cli.proofs.run.calendar.Goals as goal

pub returns-in-Err-default-Memory-clause-ran : goal.returns-in-Err-default-Memory-clause-ran
returns-in-Err-default-Memory-clause-ran g c =
    of_input (g.R.Source.left c.args.source.now) _
    (λ script. inl (record { fails = search rules; written = gains_nothing (g.W.Sink.taken c.args.sink.now) }))

pub returns-in-Err-default-Failed-clause-ran : goal.returns-in-Err-default-Failed-clause-ran
returns-in-Err-default-Failed-clause-ran g c =
    of_input (g.R.Source.left c.args.source.now) _
    (λ script. inl (record { fails = search rules; written = gains_nothing (g.W.Sink.taken c.args.sink.now) }))

pub returns-in-Ok-clause-ran : goal.returns-in-Ok-clause-ran
returns-in-Ok-clause-ran g c =
    cal_ran_opened g.K.Keeper.told g.K.Keeper.faults c.args.options c.args.keeper c.close-keeper.result.0 c.in-Ok.desk c.run_calendar-status.result.1
    (g.R.Source.left c.args.source.now) (g.W.Sink.taken c.args.sink.now) (g.W.Sink.taken c.run_calendar-status.new.sink) c.run_calendar-status.result.0
    c.in-Ok.ensures.begins c.in-Ok.ensures.opened c.in-Ok.ensures.later c.run_calendar-status.ensures.keeps.in_order c.run_calendar-status.ensures.ran
    c.close-keeper.ensures.keeper
