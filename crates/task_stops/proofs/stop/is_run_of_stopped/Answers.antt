use Rattle.std.proofs.Common.{sym}
use Rattle.task_stops.specs.StopChanges.{is_among}
use Rattle.task_stops.proofs.RunOfStopped.{none_without_job, none_without_task}
use Rattle.task_stops.proofs.stop.is_run_of_stopped.Goals as goal

pub returns-in-None : goal.returns-in-None
returns-in-None c = sym (none_without_job (is_among c.args.tables.now.state c.args.which.now) c.args.tables.now.state c.args.run.now c.in-None.is)

pub returns-in-None-task : goal.returns-in-None-task
returns-in-None-task c = sym (none_without_task (is_among c.args.tables.now.state c.args.which.now) c.args.tables.now.state c.args.run.now c.in-None-task.is)
