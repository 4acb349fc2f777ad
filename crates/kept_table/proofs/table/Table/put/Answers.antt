use Rattle.std.proofs.Common.{sym, ap, ◌∙◌}
use Rattle.kept_table.specs.Slots.{TableView, rows}
use Rattle.kept_table.proofs.Listed.{rows_push, rows_replace}
use Rattle.kept_table.proofs.table.Table.put.Goals as goal

pub returns-in-Some-clause-rows : goal.returns-in-Some-clause-rows
returns-in-Some-clause-rows g c =
    ap (λ (v : TableView g.row.R.Denot). rows v.slots) c.replace.ensures
    ∙ rows_replace (λ old. g.R.Keyed.same_key old c.args.row) c.args.self.now.slots c.args.row c.in-Some.place (sym c.in-Some.ensures)

pub returns-in-None-clause-rows : goal.returns-in-None-clause-rows
returns-in-None-clause-rows g c =
    ap rows c.push.ensures.slots
    ∙ rows_push (λ old. g.R.Keyed.same_key old c.args.row) c.args.self.now.slots c.args.row (sym c.in-None.ensures)
