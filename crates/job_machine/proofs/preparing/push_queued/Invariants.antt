use Rattle.std.proofs.Common.{◌≡◌, ◌++◌}
use Rattle.bt_rows.specs.declared.tables.Change.TheVariants.{PutRun}
use Rattle.row_changes.specs.Puts.{puts_of}
use Rattle.job_machine.specs.Endings.{queued_run}
use Rattle.job_machine.proofs.preparing.push_queued.Given as goal

-- what there is and what is left give what all rows give
abbrev pub invariant-loop-run : goal.invariant-loop-run
invariant-loop-run l = l.changes.items ++ puts_of PutRun (queued_run l.prep) l.run-iterator ≡ l.fn.changes.items ++ puts_of PutRun (queued_run l.prep) l.tables.state.runs
