use Rattle.std.proofs.Common.{sym}
use Rattle.pool_resize.proofs.FoundPools.{own_id}
use Rattle.pool_resize.proofs.events.delete_pool.Goals as goal

pub delete_found-requires-clause-there : goal.delete_found-requires-clause-there
delete_found-requires-clause-there c = own_id c.args.id.now c.in-Some.pool.now c.args.tables.now.state c.requires.keys (sym c.in-Some.ensures)
