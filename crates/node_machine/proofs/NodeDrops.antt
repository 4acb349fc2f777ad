-- The changes that drop a node lead to the tables without it.
use Rattle.std.proofs.Common.{◌≡◌, filter, not, ◌∙◌, ap}
use Rattle.bt_rows.specs.Changes.{apply_changes}
use Rattle.batch_model.specs.Dues.{drop_node}
use Rattle.batch_model.specs.Rows.{is_node}
use Rattle.batch_model.specs.WellFormed.{KeysAreDistinct}
use Rattle.batch_model.specs.Variants.{State, NodeRow}
use Rattle.row_changes.specs.Puts.{changes_where, prep_drop}
use Rattle.row_changes.proofs.ListPuts.{preps_dropped}
use Rattle.row_changes.proofs.RowDropped.{node_dropped}
use Rattle.node_machine.specs.Drops.{drop_changes, is_prep_on}

pub dropped : (node : NodeRow) (s : State) → KeysAreDistinct s → apply_changes (drop_changes node.number s) s ≡ drop_node node s
dropped node s keys =
    ap (apply_changes (changes_where prep_drop (is_prep_on node.number) s.preps)) (node_dropped node.number s keys.nodes)
    ∙ preps_dropped (is_prep_on node.number) (record s { nodes = filter (λ row. not (is_node node.number row)) s.nodes }) keys.preps
