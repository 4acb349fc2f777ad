use Rattle.std.proofs.Common.{◌∷◌, [], ◌++◌, ◌∙◌, ap}
use Rattle.bt_rows.specs.declared.tables.Change.TheVariants.{PutJob}
use Rattle.bt_rows.specs.Changes.{apply_changes}
use Rattle.batch_model.specs.Rows.{put_task}
use Rattle.batch_model.specs.Runs.{prepares}
use Rattle.batch_model.specs.Stops.{job_for}
use Rattle.batch_model.specs.Tasks.{is_in_job}
use Rattle.batch_model.specs.Variants.{WantTerminate, Terminating}
use Rattle.task_stops.specs.HaltChanges.{halt_changes}
use Rattle.task_stops.specs.StopChanges.{stop_changes}
use Rattle.task_stops.proofs.AfterPut.{keys_put}
use Rattle.task_stops.proofs.JobStops.{closed_made}
use Rattle.task_stops.proofs.after_put.terminate_after_put.Goals as goal

pub returns : goal.returns
returns c =
    let s = c.args.tables.now.state in
    let row = c.args.row.now in
    let job = c.args.job.now in
    let stops = stop_changes (is_in_job job.id) WantTerminate s.moment (put_task row s) in
    ap (λ changes. apply_changes changes (put_task row s))
    (c.in_ok-push_halt_of_job.ensures
    ∙ ap (λ changes. changes ++ halt_changes (prepares job.id) c.moment.result s)
    (c.in_ok-push_stop_after_put.ensures
    ∙ ap (λ changes. changes ++ stops) (c.in_ok-changes.ensures.items ∙ ap (λ put. PutJob put ∷ []) (c.in_ok-terminating.ensures ∙ c.in_ok-job_for.ensures)))
    ∙ ap (λ now. (PutJob (job_for Terminating c.args.reason job) ∷ stops) ++ halt_changes (prepares job.id) now s) c.moment.ensures)
    ∙ closed_made (put_task row s) (keys_put row s c.requires.keys) job c.requires.there s.moment c.requires.apart Terminating c.args.reason
