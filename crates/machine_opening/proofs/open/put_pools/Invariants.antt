use Rattle.std.proofs.Common.{◌≡◌, ◌++◌}
use Rattle.bt_rows.specs.declared.tables.Change.TheVariants.{PutPool}
use Rattle.row_changes.specs.Puts.{puts_of}
use Rattle.machine_opening.specs.Openings.{opened_pool, pool_puts}
use Rattle.machine_opening.proofs.open.put_pools.Given as goal

-- what there is and what is left give what all rows give
abbrev pub invariant-loop-pool : goal.invariant-loop-pool
invariant-loop-pool l = l.changes.items ++ puts_of PutPool (opened_pool l.tables.state.moment) l.pool-iterator ≡ l.fn.changes.items ++ pool_puts l.tables.state
