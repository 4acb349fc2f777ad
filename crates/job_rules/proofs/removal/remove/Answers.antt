use Rattle.std.proofs.Common.{Ok, refl, ap, ◌∙◌}
use Rattle.bt_rows.specs.declared.due.Due.TheVariants.{JobEnded}
use Rattle.bt_rows.specs.declared.due.JobEnd.TheVariants.{Removed}
use Rattle.bt_rows.specs.declared.reply.Reply.TheVariants.{Step}
use Rattle.batch_model.specs.JobRules.{job_removed}
use Rattle.machine_plans.proofs.DuePlans.{of_step}
use Rattle.job_rules.specs.Removals.{removal}
use Rattle.job_rules.proofs.JobRemoved.{removed}
use Rattle.job_rules.proofs.removal.remove.Goals as goal

pub returns : goal.returns
returns c =
    let s = c.args.tables.now.state in
    let job = c.args.job.now in
    let due = JobEnded c.in_ok-copy.field-0 Removed in
    of_step (Ok (record { reply = Step due; changes = c.of_vec.result })) due (removal job.id s) s (job_removed s job)
    refl (c.of_vec.ensures ∙ c.in_ok-changes.ensures) (ap (λ id. JobEnded id Removed) c.in_ok-copy.ensures) (removed job.id s c.requires.keys)
