use Rattle.std.proofs.Common.{sym, ap, ◌∙◌}
use Rattle.kept_table.specs.Slots.{TableView, rows}
use Rattle.kept_table.proofs.Listed.{rows_remove, rows_without}
use Rattle.kept_table.proofs.table.Table.drop_by_key.Goals as goal

pub returns-in-Some-clause-rows : goal.returns-in-Some-clause-rows
returns-in-Some-clause-rows g c =
    ap (λ (v : TableView g.row.R.Denot). rows v.slots) c.remove.ensures
    ∙ rows_remove (g.R.Keyed.has_key c.args.key.now) c.args.self.now.slots c.in-Some.place (sym c.in-Some.ensures)

pub returns-in-None-clause-rows : goal.returns-in-None-clause-rows
returns-in-None-clause-rows g c = sym (rows_without (g.R.Keyed.has_key c.args.key.now) c.args.self.now.slots (sym c.in-None.ensures))
