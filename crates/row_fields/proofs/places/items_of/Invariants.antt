use Rattle.std.proofs.Common.{◌≡◌, drop}
use Rattle.serde_json.specs.View.{items_view}
use Rattle.row_fields.specs.Fields.{items_in}
use Rattle.row_fields.proofs.ItemsRead.{after}
use Rattle.row_fields.proofs.places.items_of.Given as goal

-- what was read so far, and what is left, is read as all
abbrev pub invariant-loop-value : goal.invariant-loop-value
invariant-loop-value g l =
    after l.items.items (items_in g.T.Field.in_data (items_view (drop l.value-index l.values)))
    ≡ items_in g.T.Field.in_data (items_view l.values)
