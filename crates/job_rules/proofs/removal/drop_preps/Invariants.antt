use Rattle.std.proofs.Common.{◌≡◌, ◌++◌}
use Rattle.job_rules.specs.Removals.{is_prep_of_job}
use Rattle.row_changes.specs.Puts.{changes_where, prep_drop}
use Rattle.job_rules.proofs.removal.drop_preps.Given as goal

-- what there is and what is left give what all rows give
abbrev pub invariant-loop-prep : goal.invariant-loop-prep
invariant-loop-prep l = l.changes.items ++ changes_where prep_drop (is_prep_of_job l.job) l.prep-iterator ≡ l.fn.changes.items ++ changes_where prep_drop (is_prep_of_job l.job) l.tables.state.preps
