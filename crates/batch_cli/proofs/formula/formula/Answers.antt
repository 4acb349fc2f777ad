use Rattle.std.proofs.Common.{subst, sym}
use Rattle.byte_streams.proofs.Reading.{input_so}
use Rattle.batch_cli.specs.Headline.{RanFormula}
use Rattle.batch_cli.proofs.formula.formula.Goals as goal

pub returns-clause-ran : goal.returns-clause-ran
returns-clause-ran g c =
    input_so c.run_formula.ensures.ran (λ bytes ran. subst
    (λ end. RanFormula c.args.options bytes (g.W.Sink.taken c.args.sink.now) (g.W.Sink.taken c.run_formula.new.sink) end) (sym c.status_at.ensures) ran)
