use Rattle.std.proofs.Common.{sym}
use Rattle.job_machine.proofs.FoundJobs.{own_id}
use Rattle.job_machine.proofs.change.patch_job.Goals as goal

pub patch_found-requires-clause-there : goal.patch_found-requires-clause-there
patch_found-requires-clause-there c = own_id c.args.id.now c.in-Some.job.now c.args.tables.now.state c.requires.keys (sym c.in-Some.ensures)
