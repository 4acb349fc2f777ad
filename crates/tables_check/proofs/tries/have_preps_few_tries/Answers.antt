use Rattle.std.proofs.Common.{subst, ◌∙◌}
use Rattle.tables_check.specs.RowKeys.{preparation_key}
use Rattle.tables_check.proofs.ByCounts.{AreCounts, few_preparations}
use Rattle.tables_check.proofs.tries.have_preps_few_tries.Goals as goal

pub returns : goal.returns
returns c =
    let s = c.args.tables.now.state in
    c.have_few_runs-few.ensures ∙ few_preparations s c.in_ok-runs.runs (subst (AreCounts preparation_key c.in_ok-runs.runs) c.runs.ensures c.in_ok-runs.ensures)
