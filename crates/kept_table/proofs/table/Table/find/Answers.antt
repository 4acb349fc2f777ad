use Rattle.std.proofs.Common.{sym, ◌∙◌}
use Rattle.kept_table.proofs.Listed.{rows_found, rows_missed}
use Rattle.kept_table.proofs.table.Table.find.Goals as goal

pub returns-in-None : goal.returns-in-None
returns-in-None g c = sym (rows_missed (g.R.Keyed.has_key c.args.key.now) c.args.self.now.slots (sym c.in-None.ensures))

pub returns-in-Some : goal.returns-in-Some
returns-in-Some g c =
    c.row_at.ensures ∙ sym (rows_found (g.R.Keyed.has_key c.args.key.now) c.args.self.now.slots c.in-Some.place (sym c.in-Some.ensures))
