use Rattle.std.proofs.Common.{◌≡◌, ◌++◌}
use Rattle.batch_model.specs.Rows.{is_job}
use Rattle.row_changes.specs.Puts.{changes_where, job_drop}
use Rattle.job_rules.proofs.removal.drop_row.Given as goal

-- what there is and what is left give what all rows give
abbrev pub invariant-loop-row : goal.invariant-loop-row
invariant-loop-row l = l.changes.items ++ changes_where job_drop (is_job l.job) l.row-iterator ≡ l.fn.changes.items ++ changes_where job_drop (is_job l.job) l.tables.state.jobs
