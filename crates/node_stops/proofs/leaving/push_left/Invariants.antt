use Rattle.std.proofs.Common.{◌≡◌, ◌++◌}
use Rattle.bt_rows.specs.declared.tables.Change.TheVariants.{PutNode}
use Rattle.row_changes.specs.Puts.{puts_of}
use Rattle.node_stops.specs.LeaveChanges.{left_node}
use Rattle.task_stops.specs.LeaveTests.{leaves}
use Rattle.node_stops.proofs.leaving.push_left.Given as goal

-- what there is and what is left give what all rows give
abbrev pub invariant-loop-node : goal.invariant-loop-node
invariant-loop-node l = l.changes.items ++ puts_of PutNode (left_node l.option (leaves l.which)) l.node-iterator ≡ l.fn.changes.items ++ puts_of PutNode (left_node l.option (leaves l.which)) l.tables.state.nodes
