use Rattle.std.proofs.Common.{◌∙◌, ap}
use Rattle.std.proofs.lemmas.Result.{IfOk-weaker}
use Rattle.batch_cli.specs.Drill.{counts_line, counts_of}
use Rattle.batch_cli.proofs.drill.summary.summary.Goals as goal

pub returns : goal.returns
returns c =
    IfOk-weaker c.counts_line.result _ _ (λ text shown. shown ∙ ap (counts_line c.args.count) (c.counts_of.ensures
    ∙ ap (λ job. counts_of job c.args.tables.now.state) c.in_ok-job.ensures)) c.counts_line.ensures
