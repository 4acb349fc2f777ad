use Rattle.std.proofs.Common.{sym, ◌∙◌}
use Rattle.task_placing.proofs.FirstReady.{none_ready, active_is_ready}
use Rattle.task_placing.proofs.fitting.first_ready.Goals as goal

pub returns-in-None : goal.returns-in-None
returns-in-None c = sym (none_ready c.args.indexed.now.state c.args.job.now c.args.most (sym c.in-None.ensures))

pub returns-in-Some : goal.returns-in-Some
returns-in-Some c =
    sym
    (active_is_ready c.args.indexed.now.state c.args.job.now c.args.most c.in-Some.task.now (sym c.in-Some.ensures)
    (sym c.is_unblocked.ensures ∙ c.if-is_unblocked.true))
