use Rattle.std.proofs.Common.{sym, ◌∙◌}
use Rattle.run_index.proofs.NodePlaces.{node_put_again, node_put_added}
use Rattle.run_index.proofs.runs_of_nodes.RunsOfNodes.put.Goals as goal

pub returns-then-not-is_on_node_at-clause-runs : goal.returns-then-not-is_on_node_at-clause-runs
returns-then-not-is_on_node_at-clause-runs c = λ before is runs.
    node_put_added c.args.self.now c.add.new.self c.args.tables.now.run_slots before c.args.run.now c.args.place is c.add.ensures.places runs

pub returns-else-not-is_on_node_at-clause-runs : goal.returns-else-not-is_on_node_at-clause-runs
returns-else-not-is_on_node_at-clause-runs c = λ before is runs.
    node_put_again c.args.self.now c.args.tables.now.run_slots before c.args.run.now c.args.place is (sym c.is_on_node_at.ensures ∙ c.if-not-is_on_node_at.false) runs
