use Rattle.std.proofs.Common.{ap, ◌∙◌}
use Rattle.kept_table.specs.Slots.{TableView, rows}
use Rattle.kept_table.proofs.Closing.{rows_map}
use Rattle.kept_table.proofs.table.Table.close_up.Goals as goal

pub returns-clause-rows : goal.returns-clause-rows
returns-clause-rows g c =
    let closed = ap (λ (v : TableView g.row.R.Denot). v.slots) c.drop.view_is ∙ c.with_rows_of.ensures.slots in
    ap rows closed
    ∙ (rows_map (rows c.replace-slots.result.items)
    ∙ rw c.replace-slots.ensures.value (ap (λ (v : TableView g.row.R.Denot). rows v.slots) c.self.view_is))
