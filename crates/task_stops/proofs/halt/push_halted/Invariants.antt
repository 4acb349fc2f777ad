use Rattle.std.proofs.Common.{◌≡◌, ◌++◌}
use Rattle.bt_rows.specs.declared.tables.Change.TheVariants.{PutRun}
use Rattle.row_changes.specs.Puts.{puts_of}
use Rattle.task_stops.specs.HaltChanges.{concerns, halted_preparation}
use Rattle.task_stops.proofs.halt.push_halted.Given as goal

-- what there is and what is left give what all rows give
abbrev pub invariant-loop-run : goal.invariant-loop-run
invariant-loop-run l = l.changes.items ++ puts_of PutRun (halted_preparation (concerns l.tables.state l.which) l.now) l.run-iterator ≡ l.fn.changes.items ++ puts_of PutRun (halted_preparation (concerns l.tables.state l.which) l.now) l.tables.state.runs
