use Rattle.std.proofs.Common.{◌≡◌, ◌++◌}
use Rattle.row_changes.specs.Puts.{changes_where, prep_drop}
use Rattle.node_machine.specs.Drops.{is_prep_on}
use Rattle.node_machine.proofs.dropping.drop_preps.Given as goal

-- what there is and what is left give what all rows give
abbrev pub invariant-loop-prep : goal.invariant-loop-prep
invariant-loop-prep l = l.changes.items ++ changes_where prep_drop (is_prep_on l.node) l.prep-iterator ≡ l.fn.changes.items ++ changes_where prep_drop (is_prep_on l.node) l.tables.state.preps
