use Rattle.std.proofs.Common.{◌∷◌, [], ◌++◌, ◌∙◌, ap}
use Rattle.bt_rows.specs.declared.tables.Change.TheVariants.{PutJob}
use Rattle.bt_rows.specs.Changes.{apply_changes}
use Rattle.batch_model.specs.Runs.{prepares}
use Rattle.batch_model.specs.Tasks.{is_in_job}
use Rattle.batch_model.specs.Variants.{WantTerminate}
use Rattle.machine_plans.specs.Plans.{with_moment}
use Rattle.task_stops.specs.HaltChanges.{halt_changes}
use Rattle.task_stops.specs.StopChanges.{stop_changes}
use Rattle.task_stops.proofs.JobStops.{closed_made}
use Rattle.task_stops.proofs.jobs.close.Goals as goal

pub returns : goal.returns
returns c =
    let s = c.args.tables.now.state in
    let job = c.args.job.now in
    ap (λ changes. apply_changes changes (with_moment c.args.now s))
    (c.in_ok-push_halt_of_job.ensures
    ∙ ap (λ changes. changes ++ halt_changes (prepares job.id) c.args.now s)
    (c.in_ok-push_stop_of_job.ensures
    ∙ ap (λ changes. changes ++ stop_changes (is_in_job job.id) WantTerminate c.args.now s)
    (c.in_ok-changes.ensures.items ∙ ap (λ row. PutJob row ∷ []) (c.in_ok-row.ensures ∙ c.in_ok-job_for.ensures))))
    ∙ closed_made s c.requires.keys job c.requires.there c.args.now c.requires.apart c.args.state c.args.reason
