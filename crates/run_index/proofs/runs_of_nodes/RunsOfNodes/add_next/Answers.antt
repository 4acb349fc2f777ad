use Rattle.std.proofs.Common.{◌≡◌, ◌≤◌, length, take, Some, None, sym, arith}
use Rattle.std.proofs.lemmas.List.{length-take-le}
use Rattle.run_index.specs.Nodes.{HasNodeRuns}
use Rattle.run_index.proofs.NextPlaces.{at_next}
use Rattle.run_index.proofs.NodePlaces.{node_none_next, node_put_added}
use Rattle.run_index.proofs.runs_of_nodes.RunsOfNodes.add_next.Goals as goal

pub returns-in-None : goal.returns-in-None
returns-in-None c = λ runs.
    let slots = c.args.tables.now.run_slots in
    let place = c.args.place in
    at_next (HasNodeRuns c.args.self.now) slots place None c.requires.place c.in-None.ensures (node_none_next c.args.self.now (take place slots) runs)

pub returns-in-Some : goal.returns-in-Some
returns-in-Some c = λ runs.
    let slots = c.args.tables.now.run_slots in
    let place = c.args.place in
    let within = c.requires.place in
    let below : place ≤ length slots = omega (arith, within) in
    let long : length (take place slots) ≡ place = length-take-le place slots below in
    at_next (HasNodeRuns c.add.new.self) slots place (Some c.in-Some.run'.now) within c.in-Some.ensures
    (node_put_added c.args.self.now c.add.new.self (take place slots) None c.in-Some.run'.now place (sym long) c.add.ensures.places runs)
