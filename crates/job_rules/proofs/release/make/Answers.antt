use Rattle.std.proofs.Common.{◌≡◌, ◌+◌, ◌∷◌, [], ◌∙◌, ap, refl}
use Rattle.bt_rows.specs.declared.due.Due.TheVariants.{ReleaseMade}
use Rattle.bt_rows.specs.declared.tables.Change.TheVariants.{PutPrep, PutRun, Counters}
use Rattle.bt_rows.specs.Changes.{apply_changes}
use Rattle.batch_model.specs.JobRules.{release_made}
use Rattle.batch_model.specs.Runs.{job_run}
use Rattle.batch_model.specs.Variants.{ReleaseRun}
use Rattle.machine_plans.proofs.DuePlans.{of_step}
use Rattle.job_rules.proofs.ReleasePuts.{release_put}
use Rattle.job_rules.proofs.release.make.Goals as goal

pub returns : goal.returns
returns c =
    let s = c.args.tables.now.state in
    let prep = c.args.prep.now in
    let node = c.args.node.now in
    let job = c.args.job.now in
    let release = c.args.release.now in
    let number = c.next_run-number.result in
    let queued = job_run s node.number node.pool ReleaseRun release.line job.id in
    let run : c.in_ok-run.run' ≡ queued =
    c.in_ok-run.ensures ∙ ap (λ at. job_run (record s { moment = at }) node.number node.pool ReleaseRun release.line job.id) c.moment.ensures in
    of_step c.step_three.result (ReleaseMade c.in_ok-copy.field-0 node.number number)
    (PutPrep c.in_ok-row.row ∷ PutRun c.in_ok-run.run' ∷ Counters c.next_node.result (number + 1) ∷ []) s
    (release_made s prep node job release) c.step_three.ensures.reply c.step_three.ensures.changes
    (ap (λ id. ReleaseMade id node.number number) c.in_ok-copy.ensures ∙ ap (ReleaseMade job.id node.number) c.next_run-number.ensures)
    (ap (λ row. apply_changes (PutPrep c.in_ok-row.row ∷ PutRun row ∷ Counters c.next_node.result (number + 1) ∷ []) s) run
    ∙ release_put s c.requires.keys prep c.in_ok-row.row queued (number + 1) c.next_node.result c.requires.numbers c.requires.there c.in_ok-row.ensures
    refl (ap (λ n. n + 1) c.next_run-number.ensures) c.next_node.ensures)
