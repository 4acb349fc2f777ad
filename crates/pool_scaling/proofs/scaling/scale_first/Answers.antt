use Rattle.std.proofs.Common.{sym}
use Rattle.bt_rows.specs.Keys.{same_pool, same_pool_equiv}
use Rattle.bt_rows.proofs.DistinctRows.{found_first}
use Rattle.batch_model.specs.Scaling.{is_scaling}
use Rattle.pool_scaling.proofs.scaling.scale_first.Goals as goal

pub scale_pool-requires-clause-there : goal.scale_pool-requires-clause-there
scale_pool-requires-clause-there c =
    let s = c.args.indexed.now.state in
    found_first same_pool same_pool_equiv (is_scaling s) c.in-Some.pool.now s.pools c.requires.keys.pools (sym (rw c.tables.ensures at c.in-Some.ensures))
