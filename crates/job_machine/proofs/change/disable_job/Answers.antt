use Rattle.std.proofs.Common.{sym}
use Rattle.job_machine.proofs.FoundJobs.{own_id}
use Rattle.job_machine.proofs.change.disable_job.Goals as goal

pub disable_found-requires-clause-there : goal.disable_found-requires-clause-there
disable_found-requires-clause-there c = own_id c.args.id.now c.in-Some.job.now c.args.tables.now.state c.requires.keys (sym c.in-Some.ensures)
