use Rattle.std.proofs.Common.{◌∷◌, [], ◌++◌, ◌∙◌, ap}
use Rattle.bt_rows.specs.declared.tables.Change.TheVariants.{PutJob}
use Rattle.bt_rows.specs.Changes.{apply_changes}
use Rattle.machine_plans.specs.Plans.{with_moment}
use Rattle.task_stops.specs.StopChanges.{stop_changes_for}
use Rattle.task_stops.proofs.JobStops.{disabled_made}
use Rattle.task_stops.proofs.jobs.disable.Goals as goal

pub returns : goal.returns
returns c =
    let s = c.args.tables.now.state in
    let job = c.args.job.now in
    ap (λ changes. apply_changes changes (with_moment c.args.now s))
    (c.in_ok-push_stop_for.ensures
    ∙ ap (λ changes. changes ++ stop_changes_for c.args.option job.id c.args.now s)
    (c.in_ok-changes.ensures.items ∙ ap (λ row. PutJob row ∷ []) (c.in_ok-row.ensures ∙ c.in_ok-job_in.ensures)))
    ∙ disabled_made s c.requires.keys job c.requires.there c.args.now c.args.option
