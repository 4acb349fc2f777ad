use Rattle.std.proofs.Common.{◌≡◌, length}
use Rattle.run_index.specs.Nodes.{runs_at}
use Rattle.run_index.proofs.runs_of_nodes.NodeRunsIterator.next.Given as goal

-- the runs that are left are those that were left at first
abbrev pub invariant-loop-place : goal.invariant-loop-place
invariant-loop-place l = record {
  same : l.self-inside.tables.now ≡ l.initial.self-inside.tables.now;
  left : runs_at l.self-inside.tables.now.run_slots l.self-inside.places ≡ runs_at l.initial.self-inside.tables.now.run_slots l.initial.self-inside.places;
}

abbrev pub decreases-loop-place : goal.decreases-loop-place
decreases-loop-place l = length l.self-inside.places
