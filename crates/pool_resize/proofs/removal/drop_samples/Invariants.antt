use Rattle.std.proofs.Common.{◌≡◌, ◌++◌}
use Rattle.row_changes.specs.Puts.{changes_where, sample_drop}
use Rattle.pool_resize.specs.Changes.{is_sample_in}
use Rattle.pool_resize.proofs.removal.drop_samples.Given as goal

-- what there is and what is left give what all rows give
abbrev pub invariant-loop-sample : goal.invariant-loop-sample
invariant-loop-sample l = l.changes.items ++ changes_where sample_drop (is_sample_in l.pool) l.sample-iterator ≡ l.fn.changes.items ++ changes_where sample_drop (is_sample_in l.pool) l.tables.state.samples
