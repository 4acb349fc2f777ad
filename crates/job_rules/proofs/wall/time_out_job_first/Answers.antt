use Rattle.std.proofs.Common.{sym}
use Rattle.bt_rows.specs.Keys.{same_job, same_job_equiv}
use Rattle.bt_rows.proofs.DistinctRows.{found_first}
use Rattle.batch_model.specs.WallTimes.{is_job_timed_out}
use Rattle.job_rules.proofs.wall.time_out_job_first.Goals as goal

pub time_out_job-requires-clause-there : goal.time_out_job-requires-clause-there
time_out_job-requires-clause-there c =
    let s = c.args.tables.now.state in
    found_first same_job same_job_equiv (is_job_timed_out s) c.in-Some.job.now s.jobs c.requires.keys.jobs (sym c.in-Some.ensures)
