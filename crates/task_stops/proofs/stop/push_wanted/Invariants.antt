use Rattle.std.proofs.Common.{◌≡◌, ◌++◌}
use Rattle.bt_rows.specs.declared.tables.Change.TheVariants.{PutTask}
use Rattle.row_changes.specs.Puts.{puts_of}
use Rattle.task_stops.specs.StopChanges.{is_among, stopped_task}
use Rattle.task_stops.proofs.stop.push_wanted.Given as goal

-- what there is and what is left give what all rows give
abbrev pub invariant-loop-task : goal.invariant-loop-task
invariant-loop-task l = l.changes.items ++ puts_of PutTask (stopped_task (is_among l.tables.state l.which) l.want) l.task-iterator ≡ l.fn.changes.items ++ puts_of PutTask (stopped_task (is_among l.tables.state l.which) l.want) l.tables.state.tasks
