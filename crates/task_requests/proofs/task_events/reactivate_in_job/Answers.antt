use Rattle.std.proofs.Common.{sym}
use Rattle.task_requests.proofs.FoundTasks.{own_ids}
use Rattle.task_requests.proofs.task_events.reactivate_in_job.Goals as goal

pub reactivate_found-requires-clause-there : goal.reactivate_found-requires-clause-there
reactivate_found-requires-clause-there c =
    own_ids c.args.job.now.id c.args.id.now c.in-Some.task.now c.args.tables.now.state c.requires.keys (sym c.in-Some.ensures)
