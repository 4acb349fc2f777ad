use Rattle.std.proofs.Common.{◌≡◌, ◌++◌}
use Rattle.bt_rows.specs.declared.tables.Change.TheVariants.{PutRun}
use Rattle.row_changes.specs.Puts.{puts_of}
use Rattle.machine_opening.specs.Openings.{opened_run, run_puts}
use Rattle.machine_opening.proofs.open.put_runs.Given as goal

-- what there is and what is left give what all rows give
abbrev pub invariant-loop-run : goal.invariant-loop-run
invariant-loop-run l = l.changes.items ++ puts_of PutRun (opened_run l.tables.state.moment) l.run-iterator ≡ l.fn.changes.items ++ run_puts l.tables.state
