use Rattle.std.proofs.Common.{◌≡◌, ◌++◌, string_bytes}
use Rattle.std.specs.Prelude.{flat_map}
use Rattle.wire_texts.specs.Tables.{node_line}
use Rattle.wire_texts.proofs.tables.push_nodes.Given as goal

abbrev pub invariant-loop-node : goal.invariant-loop-node
invariant-loop-node l = string_bytes l.out ++ flat_map (node_line l.tables.state) l.node-iterator ≡ string_bytes l.fn.out ++ flat_map (node_line l.tables.state) l.tables.state.nodes
