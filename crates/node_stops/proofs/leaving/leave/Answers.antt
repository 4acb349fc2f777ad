use Rattle.std.proofs.Common.{◌++◌, ◌∙◌, ap}
use Rattle.bt_rows.specs.Changes.{apply_changes}
use Rattle.bt_rows.specs.declared.tables.Change.TheVariants.{PutNode, PutRun}
use Rattle.batch_model.specs.Leaving.{is_on}
use Rattle.machine_plans.specs.Plans.{with_moment}
use Rattle.node_stops.specs.LeaveChanges.{clear_changes_for, halted_start, left_node}
use Rattle.row_changes.specs.Puts.{puts_of}
use Rattle.task_stops.specs.LeaveTests.{leaves}
use Rattle.node_stops.proofs.LeaveMade.{left_at}
use Rattle.node_stops.proofs.leaving.leave.Goals as goal

pub returns : goal.returns
returns c =
    let s = c.args.tables.now.state in
    let now = c.args.now in
    let test = leaves c.args.which.now in
    ap (λ changes. apply_changes changes (with_moment now s))
    (c.in_ok-push_clear_for.ensures
    ∙ ap (λ changes. changes ++ clear_changes_for c.args.option (is_on test s) now s)
    (c.in_ok-push_starts.ensures
    ∙ ap (λ changes. changes ++ puts_of PutRun (halted_start test now s) s.runs)
    (c.in_ok-push_left.ensures
    ∙ ap (λ changes. changes ++ puts_of PutNode (left_node c.args.option test) s.nodes) c.new-changes.ensures.items)))
    ∙ left_at c.args.option test now s c.requires.keys c.requires.naming
