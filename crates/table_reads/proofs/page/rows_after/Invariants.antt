use Rattle.std.proofs.Common.{◌≡◌, ◌&&◌, length}
use Rattle.std.specs.List.{after_first}
use Rattle.bt_base.specs.Ids.{same}
use Rattle.table_reads.proofs.page.rows_after.Given as goal

-- what follows the row among those that are left follows it among all
abbrev pub invariant-loop-row : goal.invariant-loop-row
invariant-loop-row g l =
    after_first (λ row. g.R.Shown.is_in l.owner row && same (g.R.Shown.id_of row) l.id) l.rows
    ≡ after_first (λ row. g.R.Shown.is_in l.owner row && same (g.R.Shown.id_of row) l.id) l.fn.rows

abbrev pub decreases-loop-row : goal.decreases-loop-row
decreases-loop-row g l = length l.rows
