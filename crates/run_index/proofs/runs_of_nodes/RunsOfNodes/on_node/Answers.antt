use Rattle.std.proofs.Common.{◌≡◌, ℕ, List, sym, ap, subst, ◌∙◌}
use Rattle.kept_table.specs.Keys.{number_text}
use Rattle.kept_table.specs.Slots.{rows}
use Rattle.text_chains.specs.Chains.{ChainsView, places_of}
use Rattle.batch_model.specs.Variants.{RunRow}
use Rattle.run_index.specs.Nodes.{AreOnNode, runs_at}
use Rattle.run_index.proofs.NodePlaces.{are_on_node}
use Rattle.run_index.proofs.runs_of_nodes.RunsOfNodes.on_node.Goals as goal

pub returns : goal.returns
returns c =
    let slots = c.args.tables.now.run_slots in
    let node = c.args.node in
    let places : c.places.result ≡ places_of c.args.self.now (number_text node) =
    c.places.ensures ∙ ap (λ (v : ChainsView). places_of v c.as_slice.result.now) c.self.view_is ∙ ap (places_of c.args.self.now) (c.as_slice.ensures.bytes ∙ c.of_number-text.ensures) in
    subst (λ (runs : List RunRow). AreOnNode node (runs_at slots c.places.result) runs) c.places_known.ensures.runs
    (subst (λ (ps : List ℕ). AreOnNode node (runs_at slots ps) (rows slots)) (sym places) (are_on_node c.args.self.now slots node c.requires))
