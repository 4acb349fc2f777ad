use Rattle.std.proofs.Common.{sym}
use Rattle.job_machine.proofs.FoundPreps.{at_prep}
use Rattle.job_machine.proofs.ending.put_prep_ended.Goals as goal

pub end_preparation-requires : goal.end_preparation-requires
end_preparation-requires c =
    at_prep c.args.view.now.seats c.args.view.now.tables.now.state c.args.run.now c.in-Some.prep.now c.requires.sound c.requires.there c.requires.kind c.requires.taken (sym c.in-Some.ensures)
