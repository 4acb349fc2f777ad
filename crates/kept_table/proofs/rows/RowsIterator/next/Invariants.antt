use Rattle.std.proofs.Common.{◌≡◌, length}
use Rattle.kept_table.specs.Slots.{rows}
use Rattle.kept_table.proofs.rows.RowsIterator.next.Given as goal

-- the rows that are left are those that were left at first
abbrev pub invariant-loop-slot : goal.invariant-loop-slot
invariant-loop-slot g l = rows l.self-inside.left.now ≡ rows l.initial.self-inside.left.now

abbrev pub decreases-loop-slot : goal.decreases-loop-slot
decreases-loop-slot g l = length l.self-inside.left.now
