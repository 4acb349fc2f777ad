use Rattle.std.proofs.Common.{subst, ◌∙◌}
use Rattle.tables_check.specs.RowKeys.{placed_key}
use Rattle.tables_check.proofs.ByCounts.{AreCounts, quiet_jobs}
use Rattle.tables_check.proofs.quiet.place_quiet_jobs_nothing.Goals as goal

pub returns : goal.returns
returns c =
    let s = c.args.tables.now.state in
    c.have_no_placed-nothing.ensures ∙ quiet_jobs s c.in_ok-placed.placed
    (subst (AreCounts placed_key c.in_ok-placed.placed) c.tasks.ensures c.in_ok-placed.ensures)
