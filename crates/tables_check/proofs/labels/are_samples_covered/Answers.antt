use Rattle.std.proofs.Common.{◌∙◌}
use Rattle.tables_check.proofs.ByCounts.{covered_samples}
use Rattle.tables_check.proofs.labels.are_samples_covered.Goals as goal

pub returns : goal.returns
returns c = c.are_covered-covered.ensures ∙ covered_samples c.args.tables.now.state c.in_ok-labels.labels c.in_ok-labels.ensures
