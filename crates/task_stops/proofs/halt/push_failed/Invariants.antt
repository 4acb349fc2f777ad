use Rattle.std.proofs.Common.{◌≡◌, ◌++◌}
use Rattle.bt_rows.specs.declared.tables.Change.TheVariants.{PutPrep}
use Rattle.row_changes.specs.Puts.{puts_of}
use Rattle.task_stops.specs.HaltChanges.{concerns, failed_prep}
use Rattle.task_stops.proofs.halt.push_failed.Given as goal

-- what there is and what is left give what all rows give
abbrev pub invariant-loop-prep : goal.invariant-loop-prep
invariant-loop-prep l = l.changes.items ++ puts_of PutPrep (failed_prep (concerns l.tables.state l.which) l.tables.state) l.prep-iterator ≡ l.fn.changes.items ++ puts_of PutPrep (failed_prep (concerns l.tables.state l.which) l.tables.state) l.tables.state.preps
