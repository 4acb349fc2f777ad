use Rattle.std.proofs.Common.{subst, ◌∙◌}
use Rattle.tables_check.specs.RowKeys.{start_key}
use Rattle.tables_check.proofs.ByCounts.{AreCounts, few_tries}
use Rattle.tables_check.proofs.tries.have_nodes_few_tries.Goals as goal

pub returns : goal.returns
returns c =
    let s = c.args.tables.now.state in
    c.have_few_starts-few.ensures ∙ few_tries s c.in_ok-starts.starts (subst (AreCounts start_key c.in_ok-starts.starts) c.runs.ensures c.in_ok-starts.ensures)
