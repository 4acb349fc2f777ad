use Rattle.schedule_laws.proofs.Cuts.{cut_one_at_most}
use Rattle.schedule_laws.proofs.a_turn_cut_short_makes_one_job_at_most.Goals as goal

pub returns : goal.returns
returns c now s last exchanges h = cut_one_at_most now s last exchanges h
