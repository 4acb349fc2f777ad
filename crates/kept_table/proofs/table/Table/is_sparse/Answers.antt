use Rattle.std.proofs.Common.{arith}
use Rattle.kept_table.proofs.Closing.{rows_within}
use Rattle.kept_table.proofs.table.Table.is_sparse.Goals as goal

pub overflow_mul-result : goal.overflow_mul-result
overflow_mul-result g c =
    let t = c.self.inside in
    omega (arith, c.self.invariant.2, rows_within t.slots.items, t.slots.ok, t.slots.small)
