use Rattle.std.proofs.Common.{◌≡◌, ◌++◌}
use Rattle.batch_model.specs.Runs.{is_run_of_task}
use Rattle.row_changes.specs.Puts.{changes_where, run_drop}
use Rattle.task_requests.proofs.removal.push_run_drops.Given as goal

-- what there is and what is left give what all runs give
abbrev pub invariant-loop-run : goal.invariant-loop-run
invariant-loop-run l =
    let test = is_run_of_task l.task.job l.task.id in
    l.changes.items ++ changes_where run_drop test l.run-iterator ≡ l.fn.changes.items ++ changes_where run_drop test l.tables.state.runs
