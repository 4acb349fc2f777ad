use Rattle.std.proofs.Common.{inl}
use Rattle.byte_streams.proofs.Gaining.{gains_nothing}
use Rattle.byte_streams.proofs.Reading.{of_input}
use Rattle.cli_formula.proofs.run.run_formula.Goals as goal

pub returns-in-Err-Memory-clause-ran : goal.returns-in-Err-Memory-clause-ran
returns-in-Err-Memory-clause-ran g c =
    of_input (g.R.Source.left c.args.source.now) _ (λ bytes. inl (gains_nothing (g.W.Sink.taken c.args.sink.now)))

pub returns-in-Err-Failed-clause-ran : goal.returns-in-Err-Failed-clause-ran
returns-in-Err-Failed-clause-ran g c = of_input (g.R.Source.left c.args.source.now) _ (λ bytes. gains_nothing (g.W.Sink.taken c.args.sink.now))
