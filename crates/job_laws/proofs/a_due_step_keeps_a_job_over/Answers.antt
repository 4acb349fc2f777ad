use Rattle.job_laws.proofs.OverByDues.{due_keeps_over}
use Rattle.job_laws.proofs.a_due_step_keeps_a_job_over.Goals as goal

pub returns : goal.returns
returns c seats s step id sound e h = due_keeps_over id seats s step sound e h
