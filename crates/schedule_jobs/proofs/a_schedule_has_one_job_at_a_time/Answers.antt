use Rattle.schedule_jobs.proofs.TurnsOverDesk.{one_at_a_time}
use Rattle.schedule_jobs.proofs.a_schedule_has_one_job_at_a_time.Goals as goal

pub returns : goal.returns
returns g c old new s last steps order zero h = one_at_a_time g.K.Keeper.told g.K.Keeper.faults old new s last steps order zero h
