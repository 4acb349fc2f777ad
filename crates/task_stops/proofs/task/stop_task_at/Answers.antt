use Rattle.std.proofs.Common.{◌++◌, ◌∙◌, ap}
use Rattle.bt_rows.specs.Changes.{apply_changes}
use Rattle.batch_model.specs.Rows.{is_task}
use Rattle.machine_plans.specs.Plans.{with_moment}
use Rattle.task_stops.specs.StopChanges.{is_among, stop_changes}
use Rattle.task_stops.proofs.StopMade.{stop_made}
use Rattle.task_stops.proofs.task.stop_task_at.Goals as goal

pub returns : goal.returns
returns c =
    let s = c.args.tables.now.state in
    let task = c.args.task.now in
    let want = c.args.want in
    let now = c.args.now in
    ap (λ changes. apply_changes changes (with_moment now s))
    (c.in_ok-push_stop.ensures
    ∙ ap (λ changes. changes ++ stop_changes (is_among s c.in_ok-which.which) want now s) c.new-changes.ensures.items
    ∙ ap (λ which. stop_changes (is_among s which) want now s) c.in_ok-which.ensures)
    ∙ stop_made (is_task task.job task.id) want (with_moment now s) c.requires.tasks c.requires.runs
