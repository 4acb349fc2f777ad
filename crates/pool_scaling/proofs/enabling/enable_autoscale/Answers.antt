use Rattle.std.proofs.Common.{sym}
use Rattle.bt_rows.specs.Keys.{same_pool, same_pool_equiv}
use Rattle.bt_rows.proofs.DistinctRows.{found_first}
use Rattle.batch_model.specs.Rows.{is_pool}
use Rattle.pool_scaling.proofs.enabling.enable_autoscale.Goals as goal

pub enable_found-requires-clause-there : goal.enable_found-requires-clause-there
enable_found-requires-clause-there c =
    found_first same_pool same_pool_equiv (is_pool c.args.id.now) c.in-Some.pool.now c.args.tables.now.state.pools c.requires.pools (sym c.in-Some.ensures)
