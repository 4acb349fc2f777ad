use Rattle.std.proofs.Common.{Some, None, ◌∙◌}
use Rattle.task_readiness.proofs.Satisfied.{id_satisfied}
use Rattle.task_readiness.proofs.readiness.is_id_satisfied.Goals as goal

pub returns-in-None : goal.returns-in-None
returns-in-None c = id_satisfied c.args.tables.now.state c.args.job.now c.args.id.now None c.requires.tasks c.in-None.ensures

pub returns-in-Some : goal.returns-in-Some
returns-in-Some c =
    c.satisfies_others.ensures
    ∙ id_satisfied c.args.tables.now.state c.args.job.now c.args.id.now (Some c.in-Some.task.now) c.requires.tasks c.in-Some.ensures
