use Rattle.std.proofs.Common.{sym}
use Rattle.batch_model.specs.Rows.{is_pool}
use Rattle.tables_check.proofs.Matching.{any_missed, any_found}
use Rattle.tables_check.proofs.pools.has_pool_row.Goals as goal

pub returns-in-None : goal.returns-in-None
returns-in-None c = sym (any_missed (is_pool c.args.pool.now) c.args.tables.now.state.pools (sym c.in-None.ensures))

pub returns-in-Some : goal.returns-in-Some
returns-in-Some c = sym (any_found (is_pool c.args.pool.now) c.in-Some._row.now c.args.tables.now.state.pools (sym c.in-Some.ensures))
