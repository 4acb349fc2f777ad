use Rattle.std.proofs.Common.{◌≡◌, ◌++◌}
use Rattle.bt_rows.specs.declared.tables.Change.TheVariants.{PutRun}
use Rattle.row_changes.specs.Puts.{puts_of}
use Rattle.node_stops.specs.LeaveChanges.{halted_start}
use Rattle.task_stops.specs.LeaveTests.{leaves}
use Rattle.node_stops.proofs.leaving.push_starts.Given as goal

-- what there is and what is left give what all rows give
abbrev pub invariant-loop-run : goal.invariant-loop-run
invariant-loop-run l = l.changes.items ++ puts_of PutRun (halted_start (leaves l.which) l.now l.tables.state) l.run-iterator ≡ l.fn.changes.items ++ puts_of PutRun (halted_start (leaves l.which) l.now l.tables.state) l.tables.state.runs
