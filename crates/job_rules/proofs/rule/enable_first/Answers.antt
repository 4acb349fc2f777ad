use Rattle.std.proofs.Common.{sym}
use Rattle.bt_rows.specs.Keys.{same_job, same_job_equiv}
use Rattle.bt_rows.proofs.DistinctRows.{found_first}
use Rattle.batch_model.specs.JobRules.{is_to_enable}
use Rattle.job_rules.proofs.rule.enable_first.Goals as goal

pub enable-requires-clause-there : goal.enable-requires-clause-there
enable-requires-clause-there c =
    let s = c.args.tables.now.state in
    found_first same_job same_job_equiv is_to_enable c.in-Some.job.now s.jobs c.requires.jobs (sym c.in-Some.ensures)
