use Rattle.std.proofs.Common.{◌≡◌, IfOk, subst}
use Rattle.batch_model.specs.Settling.{task_failed}
use Rattle.job_machine.proofs.actions.task_failed.Goals as goal

pub returns : goal.returns
unfolding task_failed
returns c = subst (λ bytes. IfOk c.of_string.result (λ text. text ≡ bytes)) c.in_ok-from_str.ensures.ok c.of_string.ensures
