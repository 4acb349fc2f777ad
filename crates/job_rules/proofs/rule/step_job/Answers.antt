use Rattle.std.proofs.Common.{◌∷◌, [], refl}
use Rattle.bt_rows.specs.declared.tables.Change.TheVariants.{PutJob}
use Rattle.batch_model.specs.Rows.{is_job, put_job}
use Rattle.machine_plans.proofs.DuePlans.{of_step}
use Rattle.machine_plans.proofs.DuePuts.{job_changed}
use Rattle.job_rules.proofs.rule.step_job.Goals as goal

pub returns : goal.returns
returns c =
    let s = c.args.tables.now.state in
    let job = c.args.job.now in
    of_step c.step_one.result c.args.due (PutJob c.args.row ∷ []) s (record { due = c.args.due; state = put_job c.args.row s })
    c.step_one.ensures.reply c.step_one.ensures.changes refl
    (job_changed (is_job job.id) job c.args.row s c.requires.keys c.requires.there c.requires.same)
