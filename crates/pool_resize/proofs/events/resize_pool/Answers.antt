use Rattle.std.proofs.Common.{sym}
use Rattle.pool_resize.proofs.FoundPools.{own_id}
use Rattle.pool_resize.proofs.events.resize_pool.Goals as goal

pub resize_found-requires-clause-there : goal.resize_found-requires-clause-there
resize_found-requires-clause-there c = own_id c.args.id.now c.in-Some.pool.now c.args.tables.now.state c.requires (sym c.in-Some.ensures)
