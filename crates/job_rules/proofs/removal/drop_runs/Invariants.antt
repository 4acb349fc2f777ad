use Rattle.std.proofs.Common.{◌≡◌, ◌++◌}
use Rattle.job_rules.specs.Removals.{is_run_of_job}
use Rattle.row_changes.specs.Puts.{changes_where, run_drop}
use Rattle.job_rules.proofs.removal.drop_runs.Given as goal

-- what there is and what is left give what all rows give
abbrev pub invariant-loop-run : goal.invariant-loop-run
invariant-loop-run l = l.changes.items ++ changes_where run_drop (is_run_of_job l.job) l.run-iterator ≡ l.fn.changes.items ++ changes_where run_drop (is_run_of_job l.job) l.tables.state.runs
