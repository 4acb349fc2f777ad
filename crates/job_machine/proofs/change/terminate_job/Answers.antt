use Rattle.std.proofs.Common.{sym}
use Rattle.job_machine.proofs.FoundJobs.{own_id}
use Rattle.job_machine.proofs.change.terminate_job.Goals as goal

pub terminate_found-requires-clause-there : goal.terminate_found-requires-clause-there
terminate_found-requires-clause-there c = own_id c.args.id.now c.in-Some.job.now c.args.tables.now.state c.requires.keys (sym c.in-Some.ensures)
