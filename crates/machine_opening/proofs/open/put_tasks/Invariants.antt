use Rattle.std.proofs.Common.{◌≡◌, ◌++◌}
use Rattle.bt_rows.specs.declared.tables.Change.TheVariants.{PutTask}
use Rattle.row_changes.specs.Puts.{puts_of}
use Rattle.machine_opening.specs.Openings.{opened_task, task_puts}
use Rattle.machine_opening.proofs.open.put_tasks.Given as goal

-- what there is and what is left give what all rows give
abbrev pub invariant-loop-task : goal.invariant-loop-task
invariant-loop-task l = l.changes.items ++ puts_of PutTask (opened_task l.tables.state) l.task-iterator ≡ l.fn.changes.items ++ task_puts l.tables.state
