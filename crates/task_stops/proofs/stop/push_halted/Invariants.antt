use Rattle.std.proofs.Common.{◌≡◌, ◌++◌}
use Rattle.bt_rows.specs.declared.tables.Change.TheVariants.{PutRun}
use Rattle.row_changes.specs.Puts.{puts_of}
use Rattle.task_stops.specs.StopChanges.{is_among, halted_run}
use Rattle.task_stops.proofs.stop.push_halted.Given as goal

-- what there is and what is left give what all rows give
abbrev pub invariant-loop-run : goal.invariant-loop-run
invariant-loop-run l = l.changes.items ++ puts_of PutRun (halted_run (is_among l.tables.state l.which) l.now l.tables.state) l.run-iterator ≡ l.fn.changes.items ++ puts_of PutRun (halted_run (is_among l.tables.state l.which) l.now l.tables.state) l.tables.state.runs
