use Rattle.row_keys.specs.Numbers.{has_number}
use Rattle.row_keys.proofs.SeenKeys.{Splits}
use Rattle.row_keys.proofs.passes.are_distinct.Given as goal

abbrev pub invariant-loop-row : goal.invariant-loop-row
invariant-loop-row g l = Splits g.K.RowKey.key l.distinct (has_number l.seen) l.row-iterator l.fn.rows
