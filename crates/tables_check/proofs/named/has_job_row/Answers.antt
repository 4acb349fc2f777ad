use Rattle.std.proofs.Common.{sym}
use Rattle.batch_model.specs.Rows.{is_job}
use Rattle.tables_check.proofs.Matching.{any_missed, any_found}
use Rattle.tables_check.proofs.named.has_job_row.Goals as goal

pub returns-in-None : goal.returns-in-None
returns-in-None c = sym (any_missed (is_job c.args.job.now) c.args.tables.now.state.jobs (sym c.in-None.ensures))

pub returns-in-Some : goal.returns-in-Some
returns-in-Some c = sym (any_found (is_job c.args.job.now) c.in-Some._row.now c.args.tables.now.state.jobs (sym c.in-Some.ensures))
