use Rattle.std.proofs.Common.{inl}
use Rattle.byte_streams.proofs.Reading.{of_input}
use Rattle.batch_cli.proofs.Headlines.{nothing_done}
use Rattle.batch_cli.proofs.run.run_desk.Goals as goal

pub returns-in-Err-Memory-clause-ran : goal.returns-in-Err-Memory-clause-ran
returns-in-Err-Memory-clause-ran g c =
    of_input (g.R.Source.left c.args.source.now) _ (λ script. inl (nothing_done c.args.desk.now (g.W.Sink.taken c.args.sink.now)))

pub returns-in-Err-Failed-clause-ran : goal.returns-in-Err-Failed-clause-ran
returns-in-Err-Failed-clause-ran g c =
    of_input (g.R.Source.left c.args.source.now) _ (λ script. nothing_done c.args.desk.now (g.W.Sink.taken c.args.sink.now))
