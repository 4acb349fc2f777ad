use Rattle.std.proofs.Common.{◌∷◌, []}
use Rattle.bt_rows.specs.declared.tables.Change.TheVariants.{PutTask}
use Rattle.batch_model.specs.Rows.{put_task}
use Rattle.batch_model.specs.Settling.{is_over, settled}
use Rattle.machine_plans.proofs.DuePlans.{of_step}
use Rattle.machine_plans.proofs.DuePuts.{task_changed}
use Rattle.job_machine.proofs.settle.put_settled.Goals as goal

pub returns : goal.returns
returns c =
    let s = c.args.tables.now.state in
    let task = c.args.task.now in
    of_step c.step_one.result c.in_ok-due.due (PutTask c.args.row ∷ []) s (settled task c.args.outcome (put_task c.args.row s))
    c.step_one.ensures.reply c.step_one.ensures.changes c.in_ok-due.ensures
    (task_changed (is_over s) task c.args.row s c.requires.over.keys c.requires.over.found c.requires.job c.requires.id)
