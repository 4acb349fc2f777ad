use Rattle.std.proofs.Common.{sym}
use Rattle.bt_rows.specs.Keys.{same_job, same_job_equiv}
use Rattle.bt_rows.proofs.DistinctRows.{found_first}
use Rattle.batch_model.specs.JobRules.{ends_with_tasks}
use Rattle.job_rules.proofs.rule.terminate_first.Goals as goal

pub end_with_tasks-requires-clause-there : goal.end_with_tasks-requires-clause-there
end_with_tasks-requires-clause-there c =
    let s = c.args.tables.now.state in
    found_first same_job same_job_equiv (ends_with_tasks s) c.in-Some.job.now s.jobs c.requires.keys.jobs (sym c.in-Some.ensures)
