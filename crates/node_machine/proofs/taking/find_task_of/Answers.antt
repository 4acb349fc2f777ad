use Rattle.std.proofs.Common.{sym, ◌∙◌}
use Rattle.node_machine.proofs.TasksOfRuns.{task_named, no_job, no_id}
use Rattle.node_machine.proofs.taking.find_task_of.Goals as goal

pub returns-in-None : goal.returns-in-None
returns-in-None c = sym (no_job c.args.run.now c.args.tables.now.state.tasks c.in-None.is)

pub returns-in-None-task : goal.returns-in-None-task
returns-in-None-task c = sym (no_id c.args.run.now c.args.tables.now.state.tasks c.in-None-task.is)

pub returns-in-Some-task : goal.returns-in-Some-task
returns-in-Some-task c =
    c.find_task.ensures
    ∙ task_named c.args.run.now c.in-Some.job c.in-Some-task.id c.args.tables.now.state.tasks c.in-Some.is c.in-Some-task.is
