use Rattle.std.proofs.Common.{ap, ◌∙◌}
use Rattle.kept_table.specs.Slots.{TableView, rows}
use Rattle.kept_table.proofs.Closing.{rows_map}
use Rattle.kept_table.proofs.table.Table.copy.Goals as goal

pub returns : goal.returns
returns g c =
    ap rows c.with_rows_of.ensures.slots
    ∙ (rows_map (rows c.in_ok-slots.slots.items)
    ∙ (ap rows (c.in_ok-slots.ensures ∙ c.deref.ensures.value)
    ∙ ap (λ (v : TableView g.row.R.Denot). rows v.slots) c.self.view_is))
