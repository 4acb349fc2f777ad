use Rattle.std.proofs.Common.{sym}
use Rattle.bt_rows.specs.Keys.{same_run, same_run_equiv}
use Rattle.bt_rows.proofs.DistinctRows.{found_first}
use Rattle.batch_model.specs.WallTimes.{is_release_timed_out}
use Rattle.job_rules.proofs.wall.time_out_release_first.Goals as goal

pub time_out_release-requires-clause-there : goal.time_out_release-requires-clause-there
time_out_release-requires-clause-there c =
    let s = c.args.tables.now.state in
    found_first same_run same_run_equiv (is_release_timed_out s) c.in-Some.run'.now s.runs c.requires.runs (sym c.in-Some.ensures)
