use Rattle.std.proofs.Common.{◌≡◌, ◌++◌}
use Rattle.batch_model.specs.Dues.{is_start_run_of}
use Rattle.row_changes.specs.Puts.{changes_where, run_drop}
use Rattle.pool_resize.proofs.removal.drop_start_runs.Given as goal

-- what there is and what is left give what all rows give
abbrev pub invariant-loop-run : goal.invariant-loop-run
invariant-loop-run l = l.changes.items ++ changes_where run_drop (is_start_run_of l.pool) l.run-iterator ≡ l.fn.changes.items ++ changes_where run_drop (is_start_run_of l.pool) l.tables.state.runs
