use Rattle.std.proofs.Common.{◌∷◌, [], ◌∙◌, ap, refl}
use Rattle.bt_rows.specs.declared.due.Due.TheVariants.{ReleaseTimedOut}
use Rattle.bt_rows.specs.declared.tables.Change.TheVariants.{PutRun}
use Rattle.bt_rows.specs.Changes.{apply_change}
use Rattle.batch_model.specs.WallTimes.{release_timed_out}
use Rattle.machine_plans.proofs.DuePlans.{of_step}
use Rattle.job_rules.proofs.ReleasePuts.{run_asked}
use Rattle.job_rules.proofs.wall.time_out_release.Goals as goal

pub returns : goal.returns
returns c =
    let s = c.args.tables.now.state in
    let run = c.args.run.now in
    of_step c.step_one.result (ReleaseTimedOut run.number) (PutRun c.in_ok-row.row ∷ []) s (release_timed_out s run)
    c.step_one.ensures.reply c.step_one.ensures.changes refl
    (ap (λ row. apply_change (PutRun row) s) (c.in_ok-row.ensures ∙ c.in_ok-asked_to_stop.ensures) ∙ run_asked s c.requires.keys run c.requires.there)
