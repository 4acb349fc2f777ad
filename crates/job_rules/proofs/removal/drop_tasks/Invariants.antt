use Rattle.std.proofs.Common.{◌≡◌, ◌++◌}
use Rattle.batch_model.specs.Tasks.{is_in_job}
use Rattle.row_changes.specs.Puts.{changes_where, task_drop}
use Rattle.job_rules.proofs.removal.drop_tasks.Given as goal

-- what there is and what is left give what all rows give
abbrev pub invariant-loop-task : goal.invariant-loop-task
invariant-loop-task l = l.changes.items ++ changes_where task_drop (is_in_job l.job) l.task-iterator ≡ l.fn.changes.items ++ changes_where task_drop (is_in_job l.job) l.tables.state.tasks
