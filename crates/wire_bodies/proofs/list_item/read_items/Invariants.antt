use Rattle.std.proofs.Common.{◌≡◌, true, length, drop}
use Rattle.std.specs.List.{list_all}
use Rattle.serde_json.specs.View.{items_view}
use Rattle.wire_bodies.specs.Items.{items_in}
use Rattle.wire_bodies.proofs.ItemsRead.{behind}
use Rattle.wire_bodies.proofs.list_item.read_items.Given as goal

abbrev pub invariant-loop-value : goal.invariant-loop-value
invariant-loop-value g l = record {
  read : behind l.items.items (items_in (g.T.ListItem.item_in l.list) (items_view (drop l.value-index l.values))) ≡ items_in (g.T.ListItem.item_in l.list) (items_view l.values);
  count : length l.items.items ≡ l.value-index;
  in_range : list_all g.T.ListItem.is_in_range l.items.items ≡ true;
}
