use Rattle.std.proofs.Common.{sym}
use Rattle.bt_rows.specs.Keys.{same_job, same_job_equiv}
use Rattle.bt_rows.proofs.DistinctRows.{found_first}
use Rattle.batch_model.specs.JobRules.{is_to_disable}
use Rattle.job_rules.proofs.rule.disable_first.Goals as goal

pub disable-requires-clause-there : goal.disable-requires-clause-there
disable-requires-clause-there c =
    let s = c.args.tables.now.state in
    found_first same_job same_job_equiv (is_to_disable s) c.in-Some.job.now s.jobs c.requires.jobs (sym c.in-Some.ensures)
