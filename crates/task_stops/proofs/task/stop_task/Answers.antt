use Rattle.std.proofs.Common.{◌++◌, ◌∙◌, ap}
use Rattle.bt_rows.specs.Changes.{apply_changes}
use Rattle.batch_model.specs.Rows.{is_task}
use Rattle.task_stops.specs.StopChanges.{is_among, stop_changes}
use Rattle.task_stops.proofs.StopMade.{stop_made}
use Rattle.task_stops.proofs.task.stop_task.Goals as goal

pub returns : goal.returns
returns c =
    let s = c.args.tables.now.state in
    let task = c.args.task.now in
    let want = c.args.want in
    ap (λ changes. apply_changes changes s)
    (c.in_ok-push_stop.ensures
    ∙ ap (λ changes. changes ++ stop_changes (is_among s c.in_ok-which.which) want c.moment.result s) c.new-changes.ensures.items
    ∙ ap (λ which. stop_changes (is_among s which) want c.moment.result s) c.in_ok-which.ensures
    ∙ ap (λ now. stop_changes (is_task task.job task.id) want now s) c.moment.ensures)
    ∙ stop_made (is_task task.job task.id) want s c.requires.tasks c.requires.runs
