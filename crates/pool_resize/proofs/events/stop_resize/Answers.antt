use Rattle.std.proofs.Common.{sym}
use Rattle.pool_resize.proofs.FoundPools.{own_id}
use Rattle.pool_resize.proofs.events.stop_resize.Goals as goal

pub stop_found-requires-clause-there : goal.stop_found-requires-clause-there
stop_found-requires-clause-there c = own_id c.args.id.now c.in-Some.pool.now c.args.tables.now.state c.requires (sym c.in-Some.ensures)
