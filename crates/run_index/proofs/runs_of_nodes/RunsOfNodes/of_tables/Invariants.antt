use Rattle.std.proofs.Common.{take}
use Rattle.run_index.specs.Nodes.{HasNodeRuns}
use Rattle.run_index.proofs.runs_of_nodes.RunsOfNodes.of_tables.Given as goal

abbrev pub invariant-loop-place : goal.invariant-loop-place
invariant-loop-place l = HasNodeRuns l.runs (take l.place l.fn.tables.run_slots)
