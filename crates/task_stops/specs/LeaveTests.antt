-- Which nodes leave their pool.
use Rattle.std.specs.Prelude.{ℕ, Bool, ◌&&◌}
use Rattle.std.specs.List.{list_any}
use Rattle.batch_model.specs.PoolEvents.{is_leaving_from}
use Rattle.batch_model.specs.Rows.{is_node}
use Rattle.batch_model.specs.Variants.{State, NodeRow}
use Rattle.task_stops.specs.declared.leaving.LeavingNodes.{LeavingNodes}
use Rattle.task_stops.specs.declared.leaving.LeavingNodes.TheVariants.{One, LeavingFrom}

-- the node is the one with the number, or is leaving from the pool already
abbrev pub leaves : LeavingNodes → NodeRow → Bool
leaves (One number) = is_node number
leaves (LeavingFrom pool) = is_leaving_from pool

-- the node passes the test, and has the number
abbrev pub passes_with : (NodeRow → Bool) → ℕ → NodeRow → Bool
passes_with test number node = test node && is_node number node

-- the node with the number passes the test
abbrev pub has_passing : (NodeRow → Bool) → State → ℕ → Bool
has_passing test s number = list_any (passes_with test number) s.nodes
