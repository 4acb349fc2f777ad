-- Runs and their nodes in sound tables.
use Rattle.std.proofs.Common.{◌≡◌, ℕ, ◌+◌, ◌^◌, ◌<◌, ◌≤◌, count_by, Some, sym, subst, arith, lit≤}
use Rattle.std.specs.List.{find}
use Rattle.std.proofs.lemmas.Bool.Decides.{Decides-eqb, Decides-ltb}
use Rattle.batch_model.specs.Finding.{last_number}
use Rattle.batch_model.specs.Rows.{is_node, node_of, run_of}
use Rattle.batch_model.specs.Sound.{IsSound}
use Rattle.batch_model.specs.WellFormed.{is_unended_start_on, has_few_tries}
use Rattle.batch_model.specs.Variants.{State, NodeRow, RunRow}
use Rattle.model_lists.proofs.RowLists.{each_found, find_test}
use Rattle.node_machine.specs.Endings.{IsOnNode}

-- a number that is far below another
far_below : (tries others next limit bound : ℕ) → tries + others < next → next ≤ limit → limit ≤ bound → tries < bound
far_below tries others next limit bound few within far = omega arith

-- failures of a start task are far below the end of their type
has_few : (seats number : ℕ) (s : State) (node : NodeRow) → IsSound seats s → node_of s number ≡ Some node → node.tries < 2 ^ 63
has_few seats number s node sound found =
    let others = count_by (is_unended_start_on node.number) s.runs in
    far_below node.tries others s.next_run (last_number + 64) (2 ^ 63)
    ((Decides-ltb (node.tries + others) s.next_run).0 (each_found (has_few_tries s) (is_node number) node s.nodes found sound.starts.tries))
    sound.limited.counts.next_run (lit≤ tt)

-- a run that is found is on the node that its number finds
pub on_node : (seats : ℕ) (s : State) (run : RunRow) (node : NodeRow) → IsSound seats s → run_of s run.number ≡ Some run → node_of s run.node ≡ Some node → IsOnNode s run node
on_node seats s run node sound found seated = record {
  there = record { keys = sound.consistent.keys; below = sound.consistent.numbers.runs; found = found };
  seated = subst (λ number. find (is_node number) s.nodes ≡ Some node) (sym ((Decides-eqb node.number run.node).0 (find_test (is_node run.node) node s.nodes seated))) seated;
  few = has_few seats run.node s node sound seated;
}
