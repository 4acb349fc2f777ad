use Rattle.std.proofs.Common.{sym, ◌∙◌}
use Rattle.kept_table.specs.Slots.{has_text}
use Rattle.kept_table.proofs.Listed.{rows_found, rows_missed}
use Rattle.kept_table.proofs.table.Table.find_by_text.Goals as goal

pub returns-in-None : goal.returns-in-None
returns-in-None g c =
    sym (rows_missed (has_text g.R.Keyed.row_text c.args.text.now) c.args.self.now.slots (sym c.in-None.ensures))

pub returns-in-Some : goal.returns-in-Some
returns-in-Some g c =
    c.row_at.ensures
    ∙ sym (rows_found (has_text g.R.Keyed.row_text c.args.text.now) c.args.self.now.slots c.in-Some.place (sym c.in-Some.ensures))
