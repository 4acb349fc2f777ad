use Rattle.std.proofs.Common.{sym}
use Rattle.task_requests.proofs.FoundTasks.{own_ids}
use Rattle.task_requests.proofs.task_events.terminate_in_job.Goals as goal

pub terminate_found-requires-clause-there : goal.terminate_found-requires-clause-there
terminate_found-requires-clause-there c =
    own_ids c.args.job.now.id c.args.id.now c.in-Some.task.now c.args.tables.now.state c.requires.keys (sym c.in-Some.ensures)
