use Rattle.std.proofs.Common.{◌≡◌, ◌++◌, map}
use Rattle.row_changes.specs.Puts.{prep_drop}
use Rattle.machine_opening.specs.Openings.{prep_drops}
use Rattle.machine_opening.proofs.open.drop_preps.Given as goal

-- what there is and what is left give what all rows give
abbrev pub invariant-loop-prep : goal.invariant-loop-prep
invariant-loop-prep l = l.changes.items ++ map prep_drop l.prep-iterator ≡ l.fn.changes.items ++ prep_drops l.tables.state
