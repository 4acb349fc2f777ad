use Rattle.std.proofs.Common.{sym}
use Rattle.machine_plans.proofs.EventPuts.{own_number}
use Rattle.job_machine.proofs.ending.end_run.Goals as goal

pub end_found-requires-clause-there : goal.end_found-requires-clause-there
end_found-requires-clause-there c = own_number c.args.number c.in-Some.run'.now c.args.view.now.tables.now.state (sym c.in-Some.ensures)
