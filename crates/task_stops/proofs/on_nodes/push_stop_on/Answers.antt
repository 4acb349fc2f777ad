use Rattle.std.proofs.Common.{◌≡◌, ◌++◌, ap, subst}
use Rattle.std.specs.Prelude.{OnOk}
use Rattle.batch_model.specs.Leaving.{has_run_where, is_on}
use Rattle.task_stops.specs.LeaveTests.{leaves}
use Rattle.task_stops.specs.StopChanges.{stop_changes}
use Rattle.task_stops.proofs.on_nodes.push_stop_on.Goals as goal

pub returns : goal.returns
returns c =
    let s = c.args.tables.now.state in
    subst (λ changes. OnOk c.push_stop.result (c.push_stop.new.changes.items ≡ c.args.changes.now.items ++ changes))
    (ap (λ which. stop_changes (has_run_where (is_on (leaves which) s) s) c.args.want c.args.now s) c.in_ok-copy.ensures)
    c.push_stop.ensures
