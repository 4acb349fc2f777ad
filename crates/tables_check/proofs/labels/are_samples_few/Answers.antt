use Rattle.std.proofs.Common.{subst, ◌∙◌}
use Rattle.tables_check.specs.RowKeys.{metric_key}
use Rattle.tables_check.proofs.ByCounts.{AreCounts, few_samples}
use Rattle.tables_check.proofs.labels.are_samples_few.Goals as goal

pub returns : goal.returns
returns c =
    let s = c.args.tables.now.state in
    c.are_few-few.ensures ∙ few_samples s c.in_ok-counts.counts (subst (AreCounts metric_key c.in_ok-counts.counts) c.samples.ensures c.in_ok-counts.ensures)
