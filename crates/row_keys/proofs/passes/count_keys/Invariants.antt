use Rattle.row_keys.proofs.CountedKeys.{Divides}
use Rattle.row_keys.proofs.passes.count_keys.Given as goal

abbrev pub invariant-loop-row : goal.invariant-loop-row
invariant-loop-row g l = Divides g.K.RowKey.key l.counts l.row-iterator l.fn.rows
