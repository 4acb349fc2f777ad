use Rattle.std.proofs.Common.{sym}
use Rattle.bt_rows.specs.Keys.{same_pool, same_pool_equiv}
use Rattle.bt_rows.proofs.DistinctRows.{found_first}
use Rattle.batch_model.specs.Dues.{ends_resize}
use Rattle.pool_resize.proofs.resize.end_resize.Goals as goal

pub resize_ended-requires-clause-there : goal.resize_ended-requires-clause-there
resize_ended-requires-clause-there c =
    let s = c.args.tables.now.state in
    found_first same_pool same_pool_equiv (ends_resize s) c.in-Some.pool.now s.pools c.requires.pools (sym c.in-Some.ensures)
