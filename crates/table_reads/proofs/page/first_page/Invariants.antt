use Rattle.std.proofs.Common.{◌≡◌, ◌≤◌, ◌++◌, map, filter, length}
use Rattle.table_reads.proofs.page.first_page.Given as goal

-- the items so far and those that are left are all of them, and there is still room for those so far
abbrev pub invariant-loop-row : goal.invariant-loop-row
invariant-loop-row g l =
    let item_of = g.R.Shown.item_of l.tables.state in
    let is_in = g.R.Shown.is_in l.owner in
    (l.items.items ++ map item_of (filter is_in l.row-iterator) ≡ map item_of (filter is_in l.fn.rows)) × (length l.items.items ≤ l.limit)
