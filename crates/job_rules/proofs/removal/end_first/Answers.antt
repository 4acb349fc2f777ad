use Rattle.std.proofs.Common.{sym}
use Rattle.bt_rows.specs.Keys.{same_job, same_job_equiv}
use Rattle.bt_rows.proofs.DistinctRows.{found_first}
use Rattle.batch_model.specs.JobRules.{has_job_ended}
use Rattle.job_rules.proofs.removal.end_first.Goals as goal

pub end-requires-clause-there : goal.end-requires-clause-there
end-requires-clause-there c =
    let s = c.args.tables.now.state in
    found_first same_job same_job_equiv (has_job_ended s) c.in-Some.job.now s.jobs c.requires.jobs (sym c.in-Some.ensures)
