use Rattle.std.proofs.Common.{◌≡◌, ◌++◌, map}
use Rattle.machine_opening.specs.Openings.{drop_of_node, node_drops}
use Rattle.machine_opening.proofs.open.drop_nodes.Given as goal

-- what there is and what is left give what all rows give
abbrev pub invariant-loop-node : goal.invariant-loop-node
invariant-loop-node l = l.changes.items ++ map drop_of_node l.node-iterator ≡ l.fn.changes.items ++ node_drops l.tables.state
