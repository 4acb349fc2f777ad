use Rattle.std.proofs.Common.{sym}
use Rattle.machine_plans.proofs.EventPuts.{own_number}
use Rattle.node_machine.proofs.taking.take_run.Goals as goal

pub take_found-requires-clause-there : goal.take_found-requires-clause-there
take_found-requires-clause-there c = own_number c.args.number c.in-Some.run'.now c.args.tables.now.state (sym c.in-Some.ensures)
