use Rattle.std.proofs.Common.{◌∙◌}
use Rattle.batch_model.specs.Rows.{is_task}
use Rattle.task_requests.proofs.AnsweredTasks.{found_ref}
use Rattle.task_requests.proofs.task.has_row.Goals as goal

pub returns : goal.returns
returns c =
    c.is_some.ensures
    ∙ found_ref (is_task c.args.job.now c.args.id.now) c.find_task.result c.args.tables.now.state.tasks c.find_task.ensures
