use Rattle.std.proofs.Common.{Some, None, find, ap, ◌∙◌}
use Rattle.batch_model.specs.Rows.{is_job}
use Rattle.batch_model.specs.Variants.{TaskRow}
use Rattle.pool_samples.proofs.JobsOfPool.{in_active_job}
use Rattle.pool_samples.proofs.counts.is_for_active_job.Goals as goal

pub returns-in-None : goal.returns-in-None
returns-in-None c =
    in_active_job c.args.tables.now.state c.args.pool.now c.args.task.now None c.requires.jobs (c.in-None.ensures ∙ ap (λ (task : TaskRow). find (is_job task.job) c.args.tables.now.state.jobs) c.task.view_is)

pub returns-in-Some : goal.returns-in-Some
returns-in-Some c =
    c.is_active_in.ensures
    ∙ in_active_job c.args.tables.now.state c.args.pool.now c.args.task.now (Some c.in-Some.job.now) c.requires.jobs (c.in-Some.ensures ∙ ap (λ (task : TaskRow). find (is_job task.job) c.args.tables.now.state.jobs) c.task.view_is)
