use Rattle.job_laws.proofs.OverByEvents.{over_by_event}
use Rattle.job_laws.proofs.an_event_keeps_a_job_over.Goals as goal

pub returns : goal.returns
returns c moment event s id other h = over_by_event id moment event s other h
